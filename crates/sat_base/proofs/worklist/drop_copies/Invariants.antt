use Rattle.std.specs.BinaryHeap.{heap_items, heap_len}
use Rattle.sat_base.proofs.WorkLemmas.{IsLeft}
use Rattle.sat_base.proofs.worklist.drop_copies.Given as goal

-- the heap lost copies of the greatest number alone
abbrev pub invariant-loop-numbers : goal.invariant-loop-numbers
invariant-loop-numbers l = IsLeft l.greatest (heap_items l.fn.numbers) (heap_items l.numbers)

abbrev pub decreases-loop-numbers : goal.decreases-loop-numbers
decreases-loop-numbers l = heap_len l.numbers
