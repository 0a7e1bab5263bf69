use Rattle.std.proofs.Common.{◌≡◌, ◌/◌, ◌^◌, ◌∙◌, ℕ, length, sym, subst, arith}
use Rattle.std.proofs.lemmas.List.{length-map}
use Rattle.trail_book.specs.Order.{Ranking, rank}
use Rattle.trail_book.specs.Heap.{IsHeap}
use Rattle.trail_book.proofs.OrderLemmas.{heap_grown}
use Rattle.trail_book.proofs.WaitLemmas.{admitted_same, waiting_all}
use Rattle.trail_book.proofs.trail.Trail.grow.Goals as goal

-- the order of decisions does not depend on the increment
pub invariant_of-self-else-grow : goal.invariant_of-self-else-grow
invariant_of-self-else-grow c =
    let inv = c.self.invariant in
    let is = sym (c.grow.ensures.room c.if-grow.false) in
    record {
      trail = inv.trail;
      slots = inv.slots;
      values = inv.values;
      one_value_each = inv.one_value_each;
      one_place_each = inv.one_place_each;
      one_held_each = inv.one_held_each;
      one_touched_each = inv.one_touched_each;
      small = inv.small;
      room = inv.room;
      of_vars = inv.of_vars;
      ranked = subst (λ (r : Ranking). length r.activities ≡ c.self.inside.vars) is inv.ranked;
      sized = inv.sized;
      heap = subst (λ (r : Ranking). IsHeap (rank r) c.self.inside.heap) is (heap_grown c.self.inside.ranking c.self.inside.heap inv.heap);
      words = inv.words;
      admitted = inv.admitted;
      waiting = inv.waiting;
    }

-- all that are touched are taken in, and none is in order yet
pub invariant_of-self : goal.invariant_of-self
invariant_of-self c =
    let a = c.self.inside in
    let inv = c.self.invariant in
    let fill = c.fill.ensures in
    record {
      trail = inv.trail;
      slots = inv.slots;
      values = inv.values;
      one_value_each = inv.one_value_each;
      one_place_each = inv.one_place_each;
      one_held_each = inv.one_held_each;
      one_touched_each = inv.one_touched_each;
      small = inv.small;
      room = inv.room;
      of_vars = inv.of_vars;
      ranked = subst (λ (r : Ranking). length r.activities ≡ a.vars) (sym (c.grow.ensures.full c.if-grow.true)) (length-map a.ranking.activities (λ (activity : ℕ). activity / 2 ^ 32) ∙ inv.ranked);
      sized = fill.size ∙ inv.sized;
      heap = λ high low f b in_heap. absurd (omega (arith, in_heap, fill.sorted));
      words = inv.words;
      admitted = admitted_same a.touched.items a.heap c.fill.new.self fill.admits inv.admitted;
      waiting = waiting_all a.values.items a.touched.items a.heap c.fill.new.self fill.holds inv.admitted;
    }
