use Rattle.std.proofs.Common.{ap, subst, sym, arith}
use Rattle.trail_book.specs.Heap.{Heap, AdmitsSame, heap_of}
use Rattle.trail_book.proofs.HeapLemmas.{swap_admits, admits_all, admits_join}
use Rattle.trail_book.proofs.heap.Heap.drop_first.Goals as goal

-- both places are within the heap, and what sinks stays there
pub returns-clause-admits : goal.returns-clause-admits
returns-clause-admits c =
    let old = c.args.self.now in
    let mid = c.swap.new.self in
    let count = ap (λ (h : Heap). h.count) c.self.view_is in
    let admitted = ap (λ (h : Heap). h.admitted) c.self.view_is in
    let some = c.requires.some in
    let within = c.self.invariant.count in
    let swapped = swap_admits old mid _ _ (omega (arith, some, count, admitted, within)) (omega (arith, some, count, admitted, within)) c.swap.ensures.admitted c.swap.ensures.swapped in
    let fewer = subst (λ (h : Heap). AdmitsSame mid h) (sym c.self-2.view_is) (admits_all mid) in
    admits_join old mid c.sink.new.self swapped (admits_join mid (heap_of c.self-2.inside) c.sink.new.self fewer c.sink.ensures.keeps.admits)
