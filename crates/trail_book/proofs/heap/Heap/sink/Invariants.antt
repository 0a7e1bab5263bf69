use Rattle.std.proofs.Common.{◌≡◌, ◌<◌, ◌≤◌, ◌-◌, length}
use Rattle.trail_book.specs.Order.{rank}
use Rattle.trail_book.specs.Heap.{key, Keeps}
use Rattle.trail_book.proofs.HeapLemmas.{MaySink}
use Rattle.trail_book.proofs.heap.Heap.sink.Given as goal

-- only the item that moves may be out of order
abbrev pub invariant-loop-low : goal.invariant-loop-low
invariant-loop-low l = record {
  within : l.at < length l.self.items;
  heap : MaySink l.fn.place (key (rank l.ranking) l.self) l.self.sorted l.at;
  sorted : l.self.sorted ≡ l.fn.self.sorted;
  size : length l.ranking.activities ≡ length l.self.items;
  room : l.self.sorted ≤ length l.self.items;
  held : l.self.sorted ≤ l.self.count;
  free : l.self.count ≤ l.self.admitted;
  keeps : Keeps l.fn.self l.self;
}

abbrev pub decreases-loop-low : goal.decreases-loop-low
decreases-loop-low l = length l.self.items - l.at
