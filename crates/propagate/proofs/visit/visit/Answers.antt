use Rattle.std.proofs.Common.{sym, ◌∙◌}
use Rattle.trail_book.specs.Trail.{trues}
use Rattle.propagate.proofs.ClauseLemmas.{value_is_false, value_is_none, but_false}
use Rattle.propagate.proofs.visit.visit.Goals as goal

-- no literal but `other` can be watched, and it is false
pub returns-then-eq-2 : goal.returns-then-eq-2
returns-then-eq-2 c =
    let t = trues c.args.trail.now.entries in
    let all = c.in_default.ensures.none in
    but_false t _ c.args.other all (value_is_false t c.args.other c.value-value.result (sym c.eq-2.ensures ∙ c.if-eq-2.true) c.value-value.ensures)

-- or has no value
pub returns-else-eq-2 : goal.returns-else-eq-2
returns-else-eq-2 c =
    let t = trues c.args.trail.now.entries in
    let all = c.in_default.ensures.none in
    (value_is_none t c.args.other c.value-value.result (sym c.eq.ensures ∙ c.if-eq.false) (sym c.eq-2.ensures ∙ c.if-eq-2.false) c.value-value.ensures, all)

-- the other one is true
pub returns-then-eq : goal.returns-then-eq
returns-then-eq c = c.satisfied.ensures _ _
