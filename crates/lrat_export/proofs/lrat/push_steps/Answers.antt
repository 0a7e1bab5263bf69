use Rattle.std.proofs.Common.{◌∙◌, arith, sym}
use Rattle.std.proofs.lemmas.Bool.{eq-eqb, ne_eqb}
use Rattle.sat_base.specs.Derivation.{Step}
use Rattle.sat_base.specs.Hints.{ids_of}
use Rattle.lrat_export.specs.Export.{known_of}
use Rattle.lrat_export.proofs.WalkLemmas.{steps-further, steps-ended, steps-all}
use Rattle.lrat_export.proofs.lrat.push_steps.Goals as goal

-- behind the goal nothing is written
pub returns-then-step-goal : goal.returns-then-step-goal
returns-then-step-goal c =
    let source = c.args.source in
    let s : Step = record { id = c.step-step.result.id; lits = c.step-step.result.lits.now; hints = ids_of c.step-step.result.hints } in
    steps-ended source.problem.now.vars source.set.now (known_of source.problem.now source.set.now source.proof.now) source.proof.now c.args.out.now.items c.loop-at.out.items c.push_if_stays.new.out.items
    c.args.first c.loop-at.number c.in_ok-number.number c.loop-at.at s c.step-step.ensures (eq-eqb c.step-step.result.id source.proof.now.goal (c.if-step-goal.true ∙ c.goal-goal.ensures.goal))
    c.loop-at.invariant.walked c.in_ok-number.ensures.text

pub loop-at-preserved : goal.loop-at-preserved
loop-at-preserved c =
    let source = c.args.source in
    let s : Step = record { id = c.step-step.result.id; lits = c.step-step.result.lits.now; hints = ids_of c.step-step.result.hints } in
    record {
      places = c.in_ok-number.ensures.places;
      walked = steps-further source.problem.now.vars source.set.now (known_of source.problem.now source.set.now source.proof.now) source.proof.now c.args.out.now.items c.loop-at.out.items c.push_if_stays.new.out.items
          c.args.first c.loop-at.number c.in_ok-number.number c.loop-at.at s c.step-step.ensures (ne_eqb c.step-step.result.id source.proof.now.goal (λ same. c.if-step-goal.false (same ∙ sym c.goal-goal.ensures.goal)))
          c.loop-at.invariant.walked c.in_ok-number.ensures.text;
    }

-- and where no step is the goal's, all are written
pub returns : goal.returns
returns c =
    let source = c.args.source in
    steps-all source.problem.now.vars source.set.now (known_of source.problem.now source.set.now source.proof.now) source.proof.now c.args.out.now.items c.loop-at.out.items
    c.args.first c.loop-at.number c.loop-at.at (grind arith) c.loop-at.invariant.walked
