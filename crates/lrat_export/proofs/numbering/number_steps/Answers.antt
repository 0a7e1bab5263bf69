use Rattle.std.proofs.Common.{◌∙◌, ℕ, not, ap}
use Rattle.sat_base.specs.Derivation.{Step}
use Rattle.sat_base.specs.Hints.{ids_of}
use Rattle.lrat_export.specs.Export.{is_settled}
use Rattle.lrat_export.proofs.WalkLemmas.{step-further}
use Rattle.lrat_export.proofs.numbering.number_steps.Goals as goal

-- one step further
pub loop-at-preserved : goal.loop-at-preserved
loop-at-preserved c =
    let s : Step = record { id = c.step-step.result.id; lits = c.step-step.result.lits.now; hints = ids_of c.step-step.result.hints } in
    step-further c.args.problem.now c.args.set.now c.args.proof.now c.loop-at.at c.loop-at.next c.in_ok-next.next c.loop-at.entries.items c.add.new.entries.items s (not c.is_settled-stays.result)
    c.step-step.ensures (ap not (c.is_settled-stays.ensures ∙ ap (λ (v : ℕ). is_settled v c.args.set.now c.step-step.result.lits.now) c.vars.ensures)) c.loop-at.invariant
    (λ known lits is are. c.in_ok-next.ensures c.args.problem.now.vars c.args.set.now known lits is are)
