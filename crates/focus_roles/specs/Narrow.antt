-- A problem narrowed to some of its groups, which are in focus.
use Rattle.std.specs.Prelude.{ℕ, Bool, List}
use Rattle.std.specs.List.{filter, list_all}
use Rattle.gm_base.specs.Sets.{has}
use Rattle.gm_base.specs.Problem.{Problem, is_present}

-- the problem without the clauses of other groups: the background stays, and so do the numbers of variables and groups
abbrev pub narrowed : Problem → List ℕ → Problem
narrowed p focus = record p { clauses = filter (is_present focus) p.clauses }

-- the groups of a set that are in focus
abbrev pub cut_to : List ℕ → List ℕ → List ℕ
cut_to focus set = filter (has focus) set

-- whether all groups of a set are
abbrev pub is_within : List ℕ → List ℕ → Bool
is_within focus set = list_all (has focus) set
