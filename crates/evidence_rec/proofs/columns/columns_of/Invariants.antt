use Rattle.std.proofs.Common.{◌≡◌, ◌≢◌, ◌/◌, ◌%◌, ◌<◌, ℕ, [], length, take}
use Rattle.std.specs.Prelude.{slice_index_or}
use Rattle.evidence_rec.specs.Columns.{AreWords, assignment}
use Rattle.evidence_rec.proofs.columns.columns_of.Given as goal

-- the columns so far give the front of each assignment, and within a block its words were read
abbrev pub invariant-loop-at : goal.invariant-loop-at
invariant-loop-at l =
    record {
      len : length l.columns.items ≡ l.at;
      columns : (k : ℕ) → k < length l.assigns → assignment l.columns.items k ≡ take l.at (slice_index_or l.assigns k []);
      words : l.at % 64 ≢ 0 → AreWords l.assigns (l.at / 64) l.words.items;
    }
