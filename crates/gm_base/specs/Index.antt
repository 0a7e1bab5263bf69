-- Where the clauses of a group stand among all clauses.
use Rattle.std.specs.Prelude.{◌≡◌, ℕ, ◌+◌, ◌<◌, ◌≤◌, Bool, not, ◌==◌, ◌||◌, List, All, Contains, IsSomeAnd, length, slice_get, slice_index_or}
use Rattle.std.specs.List.{list_all, AllWithin}
use Rattle.std.specs.List.Sorted.{IsNonDecreasingBy}
use Rattle.gm_base.specs.declared.clause.Clause.{Clause}
use Rattle.gm_base.specs.declared.index.Placed.{Placed}
use Rattle.sat_base.specs.Literals.{clause_true}

-- the clause at this place is of this group
abbrev pub IsOfGroup : List Clause → ℕ → ℕ → Type 0
IsOfGroup clauses group at = IsSomeAnd (slice_get clauses at) (λ c. c.group ≡ group)

-- the places of the clauses of a group: each of them, and no other
pub record ArePlaces (clauses : List Clause) (group : ℕ) (places : List Placed) : Type 0 where
  pub of_group : All (λ placed. IsOfGroup clauses group placed.at) places
  pub each : (at : ℕ) → IsOfGroup clauses group at → Contains places (record { group = group; at = at })

-- the group and the place of each clause, ascending by group
pub record IsIndex (clauses : List Clause) (index : List Placed) : Type 0 where
  pub ascends : IsNonDecreasingBy (λ placed. placed.group) index
  pub of_group : All (λ placed. IsOfGroup clauses placed.group placed.at) index
  pub each : (at group : ℕ) → IsOfGroup clauses group at → Contains index (record { group = group; at = at })

-- at this place the groups from this one on begin
pub record Begins (index : List Placed) (group at : ℕ) : Type 0 where
  pub within : at ≤ length index
  pub below : AllWithin (λ placed. placed.group < group) index 0 at
  pub from : AllWithin (λ placed. group ≤ placed.group) index at (length index)

-- where each group begins, up to one that is above all
pub record AreStarts (index : List Placed) (starts : List ℕ) : Type 0 where
  pub high : All (λ placed. placed.group + 1 < length starts) index
  pub each : (group d : ℕ) → group < length starts → Begins index group (slice_index_or starts group d)

-- the assignment makes each clause of the group true
abbrev pub group_true : List Clause → List Bool → ℕ → Bool
group_true clauses assign group = list_all (λ c. not (c.group == group) || clause_true assign c.lits) clauses
