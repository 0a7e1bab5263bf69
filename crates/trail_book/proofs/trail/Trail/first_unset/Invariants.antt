use Rattle.std.proofs.Common.{◌≡◌}
use Rattle.trail_book.specs.Tables.{trail_of, AreTables}
use Rattle.trail_book.proofs.trail.Trail.first_unset.Given as goal

-- the trail is the same, and all that its heap holds is in order
abbrev pub invariant-loop-index : goal.invariant-loop-index
invariant-loop-index l = AreTables l.self-inside × (trail_of l.self-inside ≡ l.fn.self) × (l.self-inside.heap.sorted ≡ l.self-inside.heap.count)

-- the heap holds one less
abbrev pub decreases-loop-index : goal.decreases-loop-index
decreases-loop-index l = l.self-inside.heap.count
