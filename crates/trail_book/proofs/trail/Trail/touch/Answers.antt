use Rattle.std.proofs.Common.{◌<◌, ◌-◌, ◌∙◌, length, set, true, sym, subst, arith, length-set}
use Rattle.std.specs.Prelude.{pos}
use Rattle.sat_base.specs.Literals.{IsLiteral}
use Rattle.trail_book.specs.Trail.{Trail}
use Rattle.trail_book.specs.Order.{rank}
use Rattle.trail_book.proofs.WaitLemmas.{admitted_touch, admitted_same, waiting_touch}
use Rattle.trail_book.proofs.trail.Trail.touch.Goals as goal

-- the heap admits the variable besides, and holds it
pub invariant_of-self : goal.invariant_of-self
invariant_of-self c =
    let a = c.self.inside in
    let inv = c.self.invariant in
    let index = c.args.var - 1 in
    let is_lit = subst (λ (t : Trail). IsLiteral t.vars (pos c.args.var)) (sym c.self.view_is) c.requires in
    let within : index < length a.touched.items = omega (arith, inv.one_touched_each, is_lit.not_zero, is_lit.in_range) in
    let admit = c.admit.ensures in
    let insert = c.insert.ensures in
    let may = admitted_touch a.touched.items a.heap c.admit.new.self index within admit.item admit.others admit.only inv.admitted in
    record {
      trail = inv.trail;
      slots = inv.slots;
      values = inv.values;
      one_value_each = inv.one_value_each;
      one_place_each = inv.one_place_each;
      one_held_each = inv.one_held_each;
      one_touched_each = length-set a.touched.items index true ∙ inv.one_touched_each;
      small = inv.small;
      room = inv.room;
      of_vars = inv.of_vars;
      ranked = inv.ranked;
      sized = insert.size ∙ admit.size ∙ inv.sized;
      heap = insert.heap (rank a.ranking) (admit.heap (rank a.ranking) inv.heap);
      words = inv.words;
      admitted = admitted_same (set a.touched.items index true) c.admit.new.self c.insert.new.self insert.admits may;
      waiting = waiting_touch a.values.items a.touched.items a.heap c.insert.new.self index (insert.item admit.item) (λ item held. insert.holds item (admit.holds item held)) inv.waiting;
    }
