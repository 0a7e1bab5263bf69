use Rattle.std.proofs.Common.{◌<◌, length, arith}
use Rattle.std.specs.BinaryHeap.{heap_items}
use Rattle.sat_base.proofs.WorkLemmas.{greatest_of, tells_copy}
use Rattle.sat_base.proofs.worklist.has_copy.Goals as goal

-- the first number of a heap is its greatest
pub returns-in-Some : goal.returns-in-Some
returns-in-Some c =
    let numbers = heap_items c.args.numbers.now in
    let ensures = c.in-Some.ensures in
    let some : 0 < length numbers = omega arith in
    tells_copy numbers c.in-Some.first.now c.args.greatest c.requires.bound (greatest_of numbers c.in-Some.first.now some ensures.lookup (ensures.greatest c.requires.heap))
