use Rattle.std.proofs.Common.{◌≡◌, ◌∙◌, length, sym, subst, arith}
use Rattle.trail_book.specs.Order.{Ranking}
use Rattle.trail_book.proofs.WaitLemmas.{admitted_same, waiting_all}
use Rattle.trail_book.proofs.trail.Trail.start_at.Goals as goal

-- all that are touched are taken in, and none is in order yet
pub invariant_of-self : goal.invariant_of-self
invariant_of-self c =
    let a = c.self.inside in
    let inv = c.self.invariant in
    let fill = c.fill.ensures in
    record {
      trail = inv.trail;
      slots = inv.slots;
      values = inv.values;
      one_value_each = inv.one_value_each;
      one_place_each = inv.one_place_each;
      one_held_each = inv.one_held_each;
      one_touched_each = inv.one_touched_each;
      small = inv.small;
      room = inv.room;
      of_vars = inv.of_vars;
      ranked = subst (λ (r : Ranking). length r.activities ≡ a.vars) (sym c.start_at.ensures.turned) inv.ranked;
      sized = fill.size ∙ inv.sized;
      heap = λ high low f b in_heap. absurd (omega (arith, in_heap, fill.sorted));
      words = inv.words;
      admitted = admitted_same a.touched.items a.heap c.fill.new.self fill.admits inv.admitted;
      waiting = waiting_all a.values.items a.touched.items a.heap c.fill.new.self fill.holds inv.admitted;
    }
