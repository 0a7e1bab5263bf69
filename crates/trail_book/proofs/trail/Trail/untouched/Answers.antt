use Rattle.std.proofs.Common.{◌≡◌, List, length, replicate, false, subst, sym, ap, ◌∙◌, arith}
use Rattle.std.specs.Prelude.{reverse}
use Rattle.std.proofs.lemmas.Grind.{common_steps}
use Rattle.std.proofs.lemmas.List.{length-replicate}
use Rattle.trail_book.specs.declared.slot.Slot.{Slot}
use Rattle.trail_book.specs.declared.value.Value.TheVariants.{Unset}
use Rattle.trail_book.specs.Trail.{trues, IsTrail}
use Rattle.trail_book.specs.Slots.{entries_of, AreKept}
use Rattle.trail_book.specs.Order.{Ranking}
use Rattle.trail_book.proofs.WaitLemmas.{admitted_new, held_of_vars, length-positive_from, values_new}
use Rattle.lit_words.specs.Words.{AreWordsOf}
use Rattle.trail_book.proofs.trail.Trail.untouched.Goals as goal

-- nothing is true, and no variable waits
pub invariant_of-result : goal.invariant_of-result
invariant_of-result c =
    let vars = c.args.vars in
    let heap = c.in_ok-new-2.ensures in
    let ranking = sym c.in_ok-new.ensures in
    let none = c.in_ok-with_capacity.ensures.items in
    let values : c.in_ok-vec.field-0.items ≡ replicate vars Unset = grind (arith, common_steps) in
    let places : c.in_ok-vec-2.field-0.items ≡ replicate vars 0 = grind (arith, common_steps) in
    let touched : c.in_ok-vec-3.field-0.items ≡ replicate vars false = grind (arith, common_steps) in
    record {
      trail = subst (λ (ss : List Slot). IsTrail vars (entries_of (reverse ss))) (sym none) tt;
      slots = subst (λ (ss : List Slot). AreKept c.in_ok-vec-2.field-0.items (reverse ss)) (sym none) tt;
      values = values_new vars c.in_ok-vec.field-0.items (trues (entries_of (reverse c.in_ok-with_capacity.field-0.items)))
          (ap (λ (ss : List Slot). trues (entries_of (reverse ss))) none) values;
      one_value_each = ap length values ∙ length-replicate vars Unset;
      one_place_each = ap length places ∙ length-replicate vars 0;
      one_touched_each = ap length touched ∙ length-replicate vars false;
      one_held_each = ap length c.in_ok-positive.ensures ∙ length-positive_from 1 vars;
      small = c.requires;
      room = omega (arith, c.in_ok-with_capacity.ensures.capacity);
      of_vars = held_of_vars vars c.in_ok-positive.field-0.items c.in_ok-positive.ensures;
      ranked = subst (λ (r : Ranking). length r.activities ≡ vars) ranking (length-replicate vars 0);
      sized = heap.size;
      heap = λ high low f b in_heap. absurd (omega (arith, in_heap, heap.sorted));
      words = λ few. subst (λ (ss : List Slot). AreWordsOf c.new-3.result (trues (entries_of (reverse ss)))) (sym none) (λ x. (c.new-3.ensures x, λ i. absurd i));
      admitted = admitted_new vars c.in_ok-vec-3.field-0.items c.in_ok-new-2.field-0 heap.admitted touched;
      waiting = λ index t gone. absurd (omega (arith, ((admitted_new vars c.in_ok-vec-3.field-0.items c.in_ok-new-2.field-0 heap.admitted touched) index).1 t, heap.admitted));
    }
