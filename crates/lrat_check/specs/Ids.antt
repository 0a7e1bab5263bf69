-- Records of clauses under ids that ascend.
use Rattle.std.specs.Prelude.{◌≡◌, ◌≢◌, ℕ, ◌<◌, ◌≤◌, List, length, ℤ, slice_range, slice_index_or}
use Rattle.std.specs.List.{AllPairs}
use Rattle.lrat_check.specs.declared.clauses.ClauseRecord.{ClauseRecord}

-- the id and the clause that a record cuts from the literals
abbrev pub cut_by : List ℤ → ClauseRecord → ℕ × List ℤ
cut_by lits r = (r.id, slice_range lits r.start r.end)

pub record IsWithin (count : ℕ) (r : ClauseRecord) : Type 0 where
  pub ordered : r.start ≤ r.end
  pub within : r.end ≤ count

-- each id is above those before it
abbrev pub Ascend : List ClauseRecord → Type 0
Ascend records = AllPairs (λ r s. r.id < s.id) records

-- the record at this place has the id
pub record IsAt (records : List ClauseRecord) (id place : ℕ) : Type 0 where
  pub within : place < length records
  pub here : (d : ClauseRecord) → (slice_index_or records place d).id ≡ id

-- no record has it
abbrev pub HasNoId : List ClauseRecord → ℕ → Type 0
HasNoId records id = (i : ℕ) (d : ClauseRecord) → i < length records → (slice_index_or records i d).id ≢ id
