use Rattle.std.proofs.Common.{◌∙◌, sym, arith, rules}
use Rattle.trail_book.proofs.HeapLemmas.{keeps_more}
use Rattle.trail_book.proofs.heap.Heap.order_whole.Goals as goal

-- behind the last inner place nothing is below an item, and no other answer is looked for
pub loop-place-init : goal.loop-place-init
loop-place-init c = search rules

-- what is below one place more is in order, and the heap holds the same
pub loop-place-preserved : goal.loop-place-preserved
loop-place-preserved c =
    let inv = c.loop-place.invariant in
    let step = c.sink.ensures in
    record {
      heap = step.heap;
      inner = omega (arith, inv.inner, step.sorted);
      room = omega (arith, inv.room, step.sorted, step.keeps.size);
      all = step.sorted ∙ inv.all ∙ sym step.keeps.count;
      size = inv.size ∙ sym step.keeps.size;
      keeps = keeps_more c.args.self.now c.loop-place.self c.sink.new.self inv.keeps step.keeps;
    }
