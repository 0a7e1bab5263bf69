use Rattle.std.proofs.Common.{◌≡◌, ◌≢◌, ◌<◌, ◌≤◌, ◌-◌, ◌+◌, ◌∙◌, ℕ, length, subst, sym, ap, arith}
use Rattle.std.specs.Prelude.{ℤ, pos, true, false, slice_index_or}
use Rattle.sat_base.specs.Literals.{var_of, IsLiteral}
use Rattle.sat_base.specs.Units.{IsUnset, HasValue}
use Rattle.trail_book.specs.Trail.{Trail, trues, IsTouched}
use Rattle.trail_book.specs.Order.{Ranking, rank, ComesFirst}
use Rattle.trail_book.specs.Tables.{trail_of}
use Rattle.std.proofs.lemmas.List.{get_or_read}
use Rattle.trail_book.specs.declared.value.Value.TheVariants.{Unset}
use Rattle.trail_book.proofs.WaitLemmas.{admitted_same, waiting_more, waiting_drop}
use Rattle.trail_book.proofs.OrderLemmas.{comes_first, unset_var, unset_value, has_value}
use Rattle.trail_book.proofs.HeapLemmas.{first_is_greatest}
use Rattle.trail_book.proofs.trail.Trail.first_unset.Goals as goal

-- what a walk over the heap drops or orders is the heap alone
pub loop-index-init : goal.loop-index-init
loop-index-init c =
    let a = c.self-2.inside in
    let inv = c.self-2.invariant in
    let keeps = c.order.ensures.keeps in (
      record {
        trail = inv.trail;
        slots = inv.slots;
        values = inv.values;
        one_value_each = inv.one_value_each;
        one_place_each = inv.one_place_each;
        one_held_each = inv.one_held_each;
        one_touched_each = inv.one_touched_each;
        small = inv.small;
        room = inv.room;
        of_vars = inv.of_vars;
        ranked = inv.ranked;
        sized = keeps.size ∙ inv.sized;
        heap = c.order.ensures.heap;
        words = inv.words;
        admitted = admitted_same a.touched.items a.heap c.order.new.self keeps.admits inv.admitted;
        waiting = waiting_more a.values.items a.touched.items a.heap c.order.new.self keeps.holds inv.waiting;
      },
      c.self-2.view_is ∙ c.let_go.ensures,
      c.order.ensures.sorted,
    )

-- the one that goes has a value
pub loop-index-preserved : goal.loop-index-preserved
loop-index-preserved c =
    let a = c.loop-index.self-inside in
    let inv = c.loop-index.invariant.0 in
    let index = c.in-Some.index in
    let first = c.in-Some.ensures.some in
    let within : index < length a.values.items = omega (arith, first.2, inv.sized, inv.one_value_each) in
    let read = get_or_read a.values.items index c.index.result.now within c.index.ensures Unset in
    let has : slice_index_or a.values.items index Unset ≢ Unset = λ gone. grind (arith, read, gone, c.eq.ensures, c.if-eq.false) in
    let drop = c.drop_first.ensures in (
      record {
        trail = inv.trail;
        slots = inv.slots;
        values = inv.values;
        one_value_each = inv.one_value_each;
        one_place_each = inv.one_place_each;
        one_held_each = inv.one_held_each;
        one_touched_each = inv.one_touched_each;
        small = inv.small;
        room = inv.room;
        of_vars = inv.of_vars;
        ranked = inv.ranked;
        sized = drop.size ∙ inv.sized;
        heap = drop.heap;
        words = inv.words;
        admitted = admitted_same a.touched.items a.heap c.drop_first.new.self drop.admits inv.admitted;
        waiting = waiting_drop a.values.items a.touched.items a.heap c.drop_first.new.self index has (λ item held apart. drop.holds item held (λ same. apart (same ∙ sym first.0))) inv.waiting;
      },
      c.loop-index.invariant.1,
      drop.sorted,
    )

-- each other touched variable without value waits in the heap, and so does not come before its first item
pub returns-then-eq-clause-first : goal.returns-then-eq-clause-first
returns-then-eq-clause-first c =
    let a = c.loop-index.self-inside in
    let inv = c.loop-index.invariant.0 in
    let index = c.in-Some.index in
    let first = c.in-Some.ensures.some in
    subst (λ (t : Trail). (other : ℤ) → IsLiteral t.vars other → IsTouched t.touched other → IsUnset (trues t.entries) other → ComesFirst t.ranking (index + 1 - 1) (var_of other - 1))
    c.loop-index.invariant.1
    (λ other is_lit touched unset.
    let o = var_of other - 1 in
    let of_var : var_of other ≡ o + 1 = omega (arith, is_lit.not_zero) in
    let within : o < a.vars = omega (arith, is_lit.not_zero, is_lit.in_range) in
    let gone = unset_value a.vars a.values.items (trues (trail_of a).entries) o inv.values within (unset_var (trues (trail_of a).entries) other o of_var unset) in
    let waits = inv.waiting o touched gone in
    let le = first_is_greatest (rank a.ranking) a.heap inv.heap c.loop-index.invariant.2 o waits in
    let ranking : a.ranking ≡ c.self.inside.ranking = ap (λ (t : Trail). t.ranking) (c.loop-index.invariant.1 ∙ sym c.self.view_is) in
    let start : a.ranking.start ≤ length a.ranking.activities =
    subst (λ (r : Ranking). r.start ≤ length r.activities) (sym ranking) (omega (arith, c.vars-vars.ensures.start, c.vars-vars.ensures.vars)) in
    let here : index + 1 - 1 ≡ index = omega arith in
    subst (λ (n : ℕ). ComesFirst a.ranking n o) (sym here)
    (comes_first a.ranking index o start (omega (arith, first.2, inv.sized, inv.ranked)) (omega (arith, within, inv.ranked))
    (omega (arith, le, ap (rank a.ranking) first.0))))

-- what the heap holds is touched
pub returns-then-eq-clause-touched : goal.returns-then-eq-clause-touched
returns-then-eq-clause-touched c =
    let a = c.loop-index.self-inside in
    let index = c.in-Some.index in
    let here : index ≡ index + 1 - 1 = omega arith in
    subst (λ (t : Trail). IsTouched t.touched (pos (index + 1))) c.loop-index.invariant.1
    (subst (λ (n : ℕ). slice_index_or a.touched.items n false ≡ true) here ((c.loop-index.invariant.0.admitted index).0 c.in-Some.ensures.admitted))

-- nothing waits, so each touched variable has a value
pub returns-clause-none : goal.returns-clause-none
returns-clause-none c =
    let a = c.loop-index.self-inside in
    let inv = c.loop-index.invariant.0 in
    subst (λ (t : Trail). (lit : ℤ) → IsLiteral t.vars lit → IsTouched t.touched lit → HasValue (trues t.entries) lit) c.loop-index.invariant.1
    (λ lit is_lit touched.
    has_value a.vars a.values.items (trues (trail_of a).entries) inv.values lit is_lit
    (λ gone.
    let waits = inv.waiting (var_of lit - 1) touched gone in
    absurd (omega (arith, waits.1, c.in_default.ensures.none))))
