use Rattle.std.proofs.Common.{◌≢◌, ◌<◌, ℕ}
use Rattle.std.specs.Prelude.{slice_index, slice_index_or}
use Rattle.trail_book.specs.declared.value.Value.TheVariants.{Unset}
use Rattle.trail_book.proofs.trail.Trail.is_full.Given as goal

-- what the heap holds before the place has a value
abbrev pub invariant-loop-place : goal.invariant-loop-place
invariant-loop-place l = (place : ℕ) → place < l.place → slice_index_or l.self-inside.values.items (slice_index l.self-inside.heap.items place) Unset ≢ Unset
