use Rattle.std.proofs.Common.{◌≡◌, ◌⊎◌, ◌+◌, ◌<◌, ℕ, ℤ, length, true, false}
use Rattle.std.specs.Prelude.{pos, slice_index_or}
use Rattle.sat_base.specs.Members.{In}
use Rattle.sat_base.specs.Literals.{literal_true}
use Rattle.sat_base.specs.Units.{HasValue}
use Rattle.trail_book.specs.Trail.{trues, oldest}
use Rattle.cdcl_core.proofs.decisions.assignment.Given as goal

abbrev pub invariant-loop-place : goal.invariant-loop-place
invariant-loop-place l = record {
  len : length l.builder ≡ l.trail.vars;
  values : (lit : ℤ) → In lit (trues (oldest l.place l.trail.entries)) → literal_true l.builder lit ≡ true;
  others : (index : ℕ) → index < l.trail.vars → HasValue (trues (oldest l.place l.trail.entries)) (pos (index + 1)) ⊎ (slice_index_or l.builder index false ≡ l.other);
}
