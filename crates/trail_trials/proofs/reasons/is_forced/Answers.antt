use Rattle.std.proofs.Common.{◌∙◌, sym}
use Rattle.trail_trials.proofs.ReasonLemmas.{not_decided}
use Rattle.trail_trials.proofs.reasons.is_forced.Goals as goal

-- a decision has no reason
pub returns-then-is_false : goal.returns-then-is_false
returns-then-is_false c = λ h.
    (c.is_false.ensures c.if-is_false.true, not_decided c.args.trail.now.entries c.args.lit c.reason.result (sym c.is_some.ensures ∙ h) (λ e i v. c.reason.ensures e i (v ∙ sym c.var.ensures.same)))
