use Rattle.std.proofs.Common.{◌≡◌, ◌≤◌}
use Rattle.trail_book.specs.Tables.{trail_of, AreTables}
use Rattle.trail_book.proofs.trail.Trail.let_go.Given as goal

-- the trail is the same
abbrev pub invariant-loop-place : goal.invariant-loop-place
invariant-loop-place l = record {
  tables : AreTables l.self-inside;
  same : trail_of l.self-inside ≡ l.fn.self;
  held : l.place ≤ l.self-inside.heap.count;
}

abbrev pub decreases-loop-place : goal.decreases-loop-place
decreases-loop-place l = l.place
