use Rattle.std.proofs.Common.{◌<◌, ◌∙◌, ℕ, sym, subst, arith}
use Rattle.trail_book.specs.Order.{rank}
use Rattle.trail_book.specs.Heap.{key, IsBelow}
use Rattle.trail_book.proofs.HeapLemmas.{MaySink, keys_exchanged, sink_step, swap_keeps, keeps_more}
use Rattle.trail_book.proofs.heap.Heap.sink.Goals as goal

-- the item is one level lower, and it alone may still be out of order
pub loop-low-preserved : goal.loop-low-preserved
loop-low-preserved c =
    let old = c.loop-low.self in
    let new = c.swap.new.self in
    let r = rank c.args.ranking.now in
    let at = c.loop-low.at in
    let low = c.in-Some.low in
    let inv = c.loop-low.invariant in
    let told = c.in-Some.ensures in
    let below : IsBelow low at = told.some.0 in
    let within : low < old.sorted = told.some.1 in
    let step = sink_step c.args.place (key r old) (key r new) old.sorted at low below within inv.heap (c.is_above.ensures.yes c.if-not-is_above.false) told.greater
    (keys_exchanged r old.items new.items low at c.swap.ensures.swapped) in
    let upper : at < old.sorted = omega (arith, below.0, within) in
    record {
      within = omega (arith, within, inv.room, c.swap.ensures.size);
      heap = subst (λ (n : ℕ). MaySink c.args.place (key r new) n low) (sym c.swap.ensures.sorted) step;
      sorted = c.swap.ensures.sorted ∙ inv.sorted;
      size = inv.size ∙ sym c.swap.ensures.size;
      room = omega (arith, inv.room, c.swap.ensures.sorted, c.swap.ensures.size);
      held = omega (arith, inv.held, c.swap.ensures.sorted, c.swap.ensures.count);
      free = omega (arith, inv.free, c.swap.ensures.count, c.swap.ensures.admitted);
      keeps = keeps_more c.args.self.now old new inv.keeps (swap_keeps old new low at (omega (arith, within, inv.held)) (omega (arith, upper, inv.held)) inv.free c.swap.ensures.count c.swap.ensures.admitted c.swap.ensures.size c.swap.ensures.swapped);
    }
