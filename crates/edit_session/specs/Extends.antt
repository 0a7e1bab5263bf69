-- Longer problems: what was is still there as it was, and what is new is of new groups.
use Rattle.std.specs.Prelude.{◌≡◌, ℕ, ◌+◌, ◌<◌, ◌≤◌, Bool, ◌==◌, ◌&&◌, ◌||◌, List, [], ◌∷◌, ◌++◌, length, drop, nat_lt, nat_le, Option, Some, None, if◌then◌else◌}
use Rattle.std.specs.Ordering.{int_eq}
use Rattle.std.specs.Cmp.Lexicographic.{pointwise}
use Rattle.std.specs.List.{AllByRecursion}
use Rattle.std.specs.Option.{option_or}
use Rattle.gm_base.specs.declared.clause.Clause.{Clause}
use Rattle.gm_base.specs.Problem.{Problem}

-- as many variables and groups, or more; the clauses of the old problem come first, in order, and each further one is of a
-- group that the old problem doesn't have
pub record Extends (old new : Problem) : Type 0 where
  pub vars : old.vars ≤ new.vars
  pub groups : old.groups ≤ new.groups
  pub more : List Clause
  pub clauses : new.clauses ≡ old.clauses ++ more
  pub above : AllByRecursion (λ (c : Clause). old.groups < c.group) more

-- the same group, and the same literals in the same order
abbrev pub same_clause : Clause → Clause → Bool
same_clause c d = (c.group == d.group) && pointwise int_eq c.lits d.lits

-- the place, where the first has this number, of the first of these clauses in whose place there is none or another
abbrev pub first_other : ℕ → List Clause → List Clause → Option ℕ
first_other at [] new = None
first_other at (c ∷ old) [] = Some at
first_other at (c ∷ old) (d ∷ new) = if same_clause c d then first_other (at + 1) old new else Some at

-- the place, where the first has this number, of the first clause that is of a group up to this one
abbrev pub first_within : ℕ → ℕ → List Clause → Option ℕ
first_within groups at [] = None
first_within groups at (c ∷ more) = if nat_le c.group groups then Some at else first_within groups (at + 1) more

-- where a problem is no extension: 0 for its variables and groups, else the place, from 1, of a clause
abbrev pub first_break : Problem → Problem → Option ℕ
first_break old new =
    if nat_lt new.vars old.vars || nat_lt new.groups old.groups then Some 0
    else option_or (first_other 1 old.clauses new.clauses) (first_within old.groups (length old.clauses + 1) (drop (length old.clauses) new.clauses))
