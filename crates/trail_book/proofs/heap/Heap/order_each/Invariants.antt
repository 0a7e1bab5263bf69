use Rattle.std.proofs.Common.{◌≡◌, ◌≤◌, ◌-◌, length}
use Rattle.trail_book.specs.Order.{rank}
use Rattle.trail_book.specs.Heap.{IsHeap, Keeps}
use Rattle.trail_book.proofs.heap.Heap.order_each.Given as goal

-- the items so far are in order
abbrev pub invariant-loop-self : goal.invariant-loop-self
invariant-loop-self l = record {
  heap : IsHeap (rank l.ranking) l.self;
  held : l.self.sorted ≤ l.self.count;
  size : length l.ranking.activities ≡ length l.self.items;
  keeps : Keeps l.fn.self l.self;
}

abbrev pub decreases-loop-self : goal.decreases-loop-self
decreases-loop-self l = l.self.count - l.self.sorted
