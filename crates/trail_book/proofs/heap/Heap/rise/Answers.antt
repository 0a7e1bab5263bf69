use Rattle.std.proofs.Common.{◌<◌, ◌-◌, ◌/◌, ◌∙◌, ℕ, sym, subst, arith}
use Rattle.trail_book.specs.Order.{rank}
use Rattle.trail_book.specs.Heap.{key, MayRise, IsBelow}
use Rattle.trail_book.proofs.HeapLemmas.{keys_exchanged, rise_step, swap_keeps, keeps_more}
use Rattle.trail_book.proofs.heap.Heap.rise.Goals as goal

-- the item is one level higher, and it alone may still be out of order
pub loop-at-preserved : goal.loop-at-preserved
loop-at-preserved c =
    let old = c.loop-at.self in
    let new = c.swap.new.self in
    let r = rank c.args.ranking.now in
    let at = c.loop-at.at in
    let high = (at - 1) / 2 in
    let inv = c.loop-at.invariant in
    let below : IsBelow at high = (omega (arith, c.loop-at-test.true), omega (arith, c.loop-at-test.true)) in
    let higher : high < old.sorted = omega (arith, below.0, inv.within) in
    let step = rise_step (key r old) (key r new) old.sorted at high below inv.within inv.heap (c.is_above.ensures.yes c.if-not-is_above.false)
    (keys_exchanged r old.items new.items at high c.swap.ensures.swapped) in
    record {
      within = omega (arith, higher, c.swap.ensures.sorted);
      heap = subst (λ (n : ℕ). MayRise (key r new) n high) (sym c.swap.ensures.sorted) step;
      sorted = c.swap.ensures.sorted ∙ inv.sorted;
      size = inv.size ∙ sym c.swap.ensures.size;
      room = omega (arith, inv.room, c.swap.ensures.sorted, c.swap.ensures.size);
      held = omega (arith, inv.held, c.swap.ensures.sorted, c.swap.ensures.count);
      free = omega (arith, inv.free, c.swap.ensures.count, c.swap.ensures.admitted);
      keeps = keeps_more c.args.self.now old new inv.keeps (swap_keeps old new at high (omega (arith, inv.within, inv.held)) (omega (arith, higher, inv.held)) inv.free c.swap.ensures.count c.swap.ensures.admitted c.swap.ensures.size c.swap.ensures.swapped);
    }
