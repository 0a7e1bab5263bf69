use Rattle.std.proofs.Common.{◌<◌, length, arith}
use Rattle.std.specs.BinaryHeap.{heap_items}
use Rattle.sat_base.proofs.WorkLemmas.{greatest_of}
use Rattle.sat_base.proofs.worklist.WorkList.greatest.Goals as goal

-- the first number of a heap is its greatest
pub returns : goal.returns
returns c =
    let ensures = c.in_ok-first.ensures in
    let some : 0 < length (heap_items c.self.inside.numbers) = omega arith in
    rw (← c.self.view_is) (greatest_of (heap_items c.self.inside.numbers) c.in_ok-first.first.now some ensures.lookup (ensures.greatest c.self.invariant))
