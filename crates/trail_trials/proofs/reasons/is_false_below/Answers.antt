use Rattle.std.proofs.Common.{ℕ, subst}
use Rattle.std.proofs.lemmas.Bool.{ltb-true}
use Rattle.trail_book.specs.Trail.{IsPlace}
use Rattle.trail_trials.proofs.ReasonLemmas.{false_below}
use Rattle.trail_trials.proofs.reasons.is_false_below.Goals as goal

-- its value stands at a lower place
pub returns-then-is_false : goal.returns-then-is_false
returns-then-is_false c = λ h.
    let t = c.args.trail.now in
    let at = subst (λ (v : ℕ). IsPlace t.entries v c.place.result) c.var.ensures.same c.place.ensures in
    false_below t.vars t.entries c.args.lit c.place.result c.args.place c.vars-vars.ensures.trail at (c.is_false.ensures c.if-is_false.true) (ltb-true c.place.result c.args.place h)
