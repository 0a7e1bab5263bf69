-- What a counter says, and how large it is.
use Rattle.std.specs.Prelude.{◌≡◌, ℕ, ◌+◌, ◌-◌, ◌*◌, ◌<◌, ◌≤◌, min, Bool, true, List, ◌∷◌, [], ◌++◌, length, ℤ, take}
use Rattle.std.specs.List.{list_all}
use Rattle.sat_base.specs.Members.{In}
use Rattle.sat_base.specs.Literals.{IsLiteral, literal_true, clause_true}
use Rattle.gm_base.specs.declared.kind.Kind.{Kind}
use Rattle.size_counter.specs.Counter.{counted, at_least, counter_vars, counter_row, counter, limit, how_many_count, IsOrder}

-- values of so many variables that agree with those of the groups, and make the clauses and the limit true
pub record ExtendsAssignment (groups vars : ℕ) (clauses : List (List ℤ)) (limits : List ℤ) (assign values : List Bool) : Type 0 where
  pub total : length values ≡ vars
  pub agrees : take groups values ≡ assign
  pub clauses_true : list_all (clause_true values) clauses ≡ true
  pub limit_true : list_all (literal_true values) limits ≡ true

-- each assignment of the groups that counts at most the bound extends to one of all variables
abbrev pub FewExtend : Type 0
FewExtend =
    (groups bound : ℕ) (kind : Kind) (order : List ℕ) (assign : List Bool)
    → IsOrder groups order
    → length assign ≡ groups
    → how_many_count assign kind order ≤ bound
    → (values : List Bool)
    × ExtendsAssignment groups (counter_vars groups bound (length order)) (counter groups bound kind order) (limit groups bound order) assign values

-- and no other does
abbrev pub ExtendedAreFew : Type 0
ExtendedAreFew =
    (groups bound : ℕ) (kind : Kind) (order : List ℕ) (values : List Bool)
    → IsOrder groups order
    → list_all (clause_true values) (counter groups bound kind order) ≡ true
    → list_all (literal_true values) (limit groups bound order) ≡ true
    → how_many_count values kind order ≤ bound

-- a group more is a row more
abbrev pub GroupIsRow : Type 0
GroupIsRow =
    (groups bound : ℕ) (kind : Kind) (order : List ℕ) (g : ℕ)
    → counter groups bound kind (order ++ g ∷ []) ≡ counter groups bound kind order ++ counter_row groups bound (length order) (counted kind g)

-- each literal is over the counter's variables
abbrev pub AreOverVars : Type 0
AreOverVars =
    (groups bound : ℕ) (kind : Kind) (order : List ℕ) (clause : List ℤ) (l : ℤ)
    → IsOrder groups order
    → In clause (counter groups bound kind order)
    → In l clause
    → IsLiteral (counter_vars groups bound (length order)) l

-- the variable of a row and a column is theirs alone, and no group's
pub record IsOwnVar (groups bound row column : ℕ) : Type 0 where
  pub behind : groups < groups + (bound + 1) * (row - 1) + column
  pub own :
      (r c : ℕ) → 0 < r → 0 < c → c ≤ bound + 1 → at_least groups bound r c ≡ at_least groups bound row column → (r ≡ row) × (c ≡ column)

-- of each row and column up to one above the bound
abbrev pub VarsAreApart : Type 0
VarsAreApart = (groups bound row column : ℕ) → 0 < row → 0 < column → column ≤ bound + 1 → IsOwnVar groups bound row column

-- how many clauses there are: with m groups and n the lesser of m and one above the bound, 2 m n less the square of n
abbrev pub CounterHasSize : Type 0
CounterHasSize =
    (groups bound : ℕ) (kind : Kind) (order : List ℕ)
    → length (counter groups bound kind order) + min (length order) (bound + 1) * min (length order) (bound + 1)
    ≡ 2 * length order * min (length order) (bound + 1)
