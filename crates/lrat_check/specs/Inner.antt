-- How a list of clauses lays them out, and what a checker keeps beside it.
use Rattle.std.specs.Prelude.{◌≡◌, ℕ, ◌+◌, ◌-◌, ◌^◌, ◌<◌, ◌≤◌, List, map, take, length, All, ℤ, slice_index_or, vec_len, vec_capacity}
use Rattle.sat_base.specs.Literals.{IsLiteral}
use Rattle.lrat_check.specs.State.{State}
use Rattle.lrat_check.specs.Ids.{cut_by, IsWithin, Ascend}
use Rattle.lrat_check.specs.declared.clauses.ClauseRecord.{ClauseRecord}
use Rattle.lrat_check.specs.declared.clauses.ClauseList.TheInside.{Inside}

abbrev pub state_of : Inside → State
state_of a =
    record {
      vars = a.vars;
      inputs = a.inputs;
      known = map (cut_by a.lits.items) a.records.items;
      room = vec_capacity a.records - vec_len a.records;
      literal_room = vec_capacity a.lits - vec_len a.lits;
    }

-- records under ids that ascend, each of which cuts literals over the variables
pub record AreLaidOut (vars inputs input_lits : ℕ) (lits : List ℤ) (records : List ClauseRecord) : Type 0 where
  pub small : vars < 2 ^ 31
  pub over : All (IsLiteral vars) lits
  pub within : All (IsWithin (length lits)) records
  pub ascend : Ascend records
  pub counted : inputs ≤ length records
  pub lits_counted : input_lits ≤ length lits
  -- the given clauses come first, under the ids from 1, and so do their literals
  pub numbered : (i : ℕ) (d : ClauseRecord) → i < inputs → (slice_index_or records i d).id ≡ i + 1
  pub inputs_within : All (IsWithin input_lits) (take inputs records)

abbrev pub IsLaidOut : Inside → Type 0
IsLaidOut a = AreLaidOut a.vars a.inputs a.input_lits a.lits.items a.records.items
