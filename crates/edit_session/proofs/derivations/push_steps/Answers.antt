use Rattle.std.proofs.Common.{◌+◌}
use Rattle.sat_base.specs.Derivation.{Step}
use Rattle.sat_base.specs.Hints.{ids_of}
use Rattle.edit_session.specs.Carried.{carried_step}
use Rattle.edit_session.proofs.DerivationLemmas.{over-at, id-at, hints-at, steps-next}
use Rattle.edit_session.proofs.derivations.push_steps.Goals as goal

pub push_step-requires-clause-over : goal.push_step-requires-clause-over
push_step-requires-clause-over c =
    over-at (c.args.old.now.vars + c.args.old.now.groups) c.args.proof.now.steps c.loop-at.at (record { id = c.step-step.result.id; lits = c.step-step.result.lits.now; hints = ids_of c.step-step.result.hints })
    c.requires.over c.step-step.ensures

pub push_step-requires-clause-id : goal.push_step-requires-clause-id
push_step-requires-clause-id c =
    id-at c.args.proof.now c.loop-at.at (record { id = c.step-step.result.id; lits = c.step-step.result.lits.now; hints = ids_of c.step-step.result.hints }) c.goal-goal.ensures.ids c.step-step.ensures

pub push_step-requires-clause-small : goal.push_step-requires-clause-small
push_step-requires-clause-small c =
    hints-at c.args.proof.now c.loop-at.at (record { id = c.step-step.result.id; lits = c.step-step.result.lits.now; hints = ids_of c.step-step.result.hints }) c.goal-goal.ensures.ids c.step-step.ensures

-- one step more
pub loop-at-preserved : goal.loop-at-preserved
loop-at-preserved c =
    let s : Step = record { id = c.step-step.result.id; lits = c.step-step.result.lits.now; hints = ids_of c.step-step.result.hints } in
    steps-next (carried_step c.args.old.now c.args.new.now c.args.ids.now) c.args.proof.now.steps c.loop-at.at s c.args.builder.now c.loop-at.builder c.push_step.new.builder
    c.step-step.ensures c.loop-at.invariant c.in_ok-push_step.ensures
