use Rattle.std.proofs.Common.{◌≡◌, ◌<◌, ◌≤◌, length}
use Rattle.trail_book.specs.Order.{rank}
use Rattle.trail_book.specs.Heap.{key, MayRise, Keeps}
use Rattle.trail_book.proofs.heap.Heap.rise.Given as goal

-- only the item that moves may be out of order
abbrev pub invariant-loop-at : goal.invariant-loop-at
invariant-loop-at l = record {
  within : l.at < l.self.sorted;
  heap : MayRise (key (rank l.ranking) l.self) l.self.sorted l.at;
  sorted : l.self.sorted ≡ l.fn.self.sorted;
  size : length l.ranking.activities ≡ length l.self.items;
  room : l.self.sorted ≤ length l.self.items;
  held : l.self.sorted ≤ l.self.count;
  free : l.self.count ≤ l.self.admitted;
  keeps : Keeps l.fn.self l.self;
}

abbrev pub decreases-loop-at : goal.decreases-loop-at
decreases-loop-at l = l.at
