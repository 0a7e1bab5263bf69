use Rattle.std.proofs.Common.{◌≡◌, ◌≤◌, length}
use Rattle.trail_book.specs.Order.{rank}
use Rattle.trail_book.specs.Heap.{key, AreOrdered, Keeps}
use Rattle.trail_book.proofs.heap.Heap.order_whole.Given as goal

-- what is below the places from this one on is in order
abbrev pub invariant-loop-place : goal.invariant-loop-place
invariant-loop-place l = record {
  heap : AreOrdered l.place (key (rank l.ranking) l.self) l.self.sorted;
  inner : l.place ≤ l.self.sorted;
  room : l.self.sorted ≤ length l.self.items;
  all : l.self.sorted ≡ l.self.count;
  size : length l.ranking.activities ≡ length l.self.items;
  keeps : Keeps l.fn.self l.self;
}

abbrev pub decreases-loop-place : goal.decreases-loop-place
decreases-loop-place l = l.place
