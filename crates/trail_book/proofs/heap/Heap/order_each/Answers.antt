use Rattle.std.proofs.Common.{ap, subst, sym, length, arith}
use Rattle.trail_book.specs.Heap.{Heap, Keeps}
use Rattle.trail_book.proofs.HeapLemmas.{keeps_more}
use Rattle.trail_book.proofs.heap.Heap.order_each.Goals as goal

-- one more item is in order, and the heap holds the same
pub loop-self-preserved : goal.loop-self-preserved
loop-self-preserved c =
    let inv = c.loop-self.invariant in
    let view = c.self-in-loop-self.view_is in
    let k = subst (λ (h : Heap). Keeps c.args.self.now h) (sym view) inv.keeps in
    let step = c.rise.ensures in
    record {
      heap = step.heap;
      held = omega (arith, step.sorted, step.keeps.count, c.loop-self-test.true);
      size = omega (arith, inv.size, step.keeps.size, ap (λ (h : Heap). length h.items) view);
      keeps = keeps_more c.args.self.now _ c.rise.new.self (record { count = k.count; size = k.size; holds = k.holds; admits = k.admits }) step.keeps;
    }
