use Rattle.std.proofs.Common.{◌≡◌, ◌<◌, ◌+◌, ◌-◌, ℕ, subst, arith}
use Rattle.std.specs.Prelude.{ℤ, pos, true, false, slice_index_or}
use Rattle.std.proofs.lemmas.List.{get_or_read}
use Rattle.sat_base.specs.Literals.{IsLiteral}
use Rattle.sat_base.specs.Units.{IsUnset}
use Rattle.trail_book.specs.declared.value.Value.TheVariants.{Unset}
use Rattle.trail_book.specs.Trail.{Trail, trues, IsTouched}
use Rattle.trail_book.specs.Tables.{trail_of}
use Rattle.trail_book.proofs.OrderLemmas.{unset_at}
use Rattle.trail_book.proofs.trail.Trail.is_full.Goals as goal

-- what the heap holds is touched, and this has no value
pub returns-then-eq-clause-no : goal.returns-then-eq-clause-no
returns-then-eq-clause-no c = λ no.
    let a = c.self.inside in
    let inv = c.self.invariant in
    let index = c.at.result in
    let within : index < a.vars = omega (arith, c.at.ensures.within, inv.sized) in
    let read = get_or_read a.values.items index c.index.result.now (omega (arith, within, inv.one_value_each)) c.index.ensures Unset in
    let gone : slice_index_or a.values.items index Unset ≡ Unset = grind (arith, read, c.eq.ensures, c.if-eq.true) in
    let here : index ≡ index + 1 - 1 = omega arith in
    let on : slice_index_or a.touched.items (index + 1 - 1) false ≡ true = subst (λ (n : ℕ). slice_index_or a.touched.items n false ≡ true) here ((inv.admitted index).0 c.at.ensures.admitted) in
    subst (λ (t : Trail). (lit : ℤ) × IsLiteral t.vars lit × IsTouched t.touched lit × IsUnset (trues t.entries) lit) c.self.view_is
    (pos (index + 1), record { not_zero = omega arith; in_range = omega (arith, within) }, on, unset_at a.vars a.values.items (trues (trail_of a).entries) index inv.values within gone)
