-- Literals and clauses under an assignment (DIMACS CNF). A literal is the number of a variable, from 1, or its negative.
-- An assignment is a list of truth values, that of variable 1 first.
use Rattle.std.specs.Prelude.{ℕ, ◌-◌, ◌<◌, ◌≤◌, Bool, false, not, List, ℤ, pos, negsuc, nat_abs, slice_index_or}
use Rattle.std.specs.List.{list_any, AllByRecursion}

-- the variable of a literal
abbrev pub var_of : ℤ → ℕ
var_of lit = nat_abs lit

-- a literal over the variables 1 to vars
pub record IsLiteral (vars : ℕ) (lit : ℤ) : Type 0 where
  pub not_zero : 0 < var_of lit
  pub in_range : var_of lit ≤ vars

-- literals over the variables 1 to vars
abbrev pub AreLiterals : ℕ → List ℤ → Type 0
AreLiterals vars lits = AllByRecursion (IsLiteral vars) lits

-- whether the assignment makes the literal true
abbrev pub literal_true : List Bool → ℤ → Bool
literal_true assign (pos v) = slice_index_or assign (v - 1) false
literal_true assign (negsuc v) = not (slice_index_or assign v false)

-- a clause holds where one of its literals is true
abbrev pub clause_true : List Bool → List ℤ → Bool
clause_true assign lits = list_any (literal_true assign) lits
