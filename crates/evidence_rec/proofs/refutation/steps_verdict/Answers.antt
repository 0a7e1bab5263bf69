use Rattle.std.proofs.Common.{◌∙◌, ap, sym, ℕ, Some, rules}
use Rattle.sat_base.specs.Derivation.{Step}
use Rattle.sat_base.specs.Hints.{ids_of}
use Rattle.lrat_check.specs.State.{refusal_of, known_after}
use Rattle.lrat_check.specs.declared.checker.Checked.{Checked}
use Rattle.evidence_rec.proofs.LineLemmas.{taken-next, taken-refused}
use Rattle.evidence_rec.proofs.refutation.steps_verdict.Goals as goal

-- the first step that is refused
pub returns-in-Refused-clause-answer : goal.returns-in-Refused-clause-answer
returns-in-Refused-clause-answer c =
    let s : Step = record { id = c.step-step.result.id; lits = c.step-step.result.lits.now; hints = ids_of c.step-step.result.hints } in
    ap (λ (n : ℕ). Some (n, c.in-Refused.why)) c.in_ok-part.ensures
    ∙ sym (taken-refused c.args.checker.now c.loop-at.checker c.args.line c.args.proof.now.steps c.loop-at.at s c.in-Refused.why c.loop-at.invariant c.step-step.ensures
    (sym c.in_ok-step.ensures.answer ∙ ap refusal_of c.in-Refused.is))

pub loop-at-preserved : goal.loop-at-preserved
loop-at-preserved c =
    let s : Step = record { id = c.step-step.result.id; lits = c.step-step.result.lits.now; hints = ids_of c.step-step.result.hints } in
    taken-next c.args.checker.now c.loop-at.checker c.step.new.self c.args.line c.args.proof.now.steps c.loop-at.at s c.loop-at.invariant c.step-step.ensures
    (sym c.in_ok-step.ensures.answer ∙ ap refusal_of c.in-Ok.is)
    (c.in_ok-step.ensures.known ∙ ap (λ (k : Checked). known_after k c.loop-at.checker.known s.id s.lits) c.in-Ok.is)
    c.in_ok-step.ensures.vars c.in_ok-step.ensures.inputs

-- no step was taken
pub loop-at-init : goal.loop-at-init
loop-at-init c = search rules
