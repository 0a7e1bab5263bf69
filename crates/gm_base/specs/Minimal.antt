-- Minimal conflicts (group MUS) and minimal corrections (group MCS), as facts over all proper subsets, and the lists of
-- all of them, by tests over all assignments (Liffiton and Sakallah 2008).
use Rattle.std.specs.Prelude.{ℕ, zero, suc, Bool, true, false, not, ◌&&◌, List, [], ◌∷◌, ◌++◌, map}
use Rattle.std.specs.List.{list_any, list_all, filter}
use Rattle.gm_base.specs.Sets.{IsProperSubset, complement, subsets, proper_sublists}
use Rattle.gm_base.specs.Problem.{Problem, Sat, satisfies}

-- unsatisfiable, and each proper subset is satisfiable
pub record IsConflict (p : Problem) (set : List ℕ) : Type 0 where
  pub unsat : ¬ Sat p set
  pub minimal : (part : List ℕ) → IsProperSubset part set → Sat p part

-- its removal leaves a satisfiable rest, and that of no proper subset does
pub record IsCorrection (p : Problem) (set : List ℕ) : Type 0 where
  pub sat : Sat p (complement p.groups set)
  pub minimal : (part : List ℕ) → IsProperSubset part set → ¬ Sat p (complement p.groups part)

-- all lists of so many truth values
abbrev pub assignments : ℕ → List (List Bool)
assignments zero = [] ∷ []
assignments (suc n) = map (λ a. false ∷ a) (assignments n) ++ map (λ a. true ∷ a) (assignments n)

-- whether one of all assignments satisfies the set
unfoldable pub is_sat : Problem → List ℕ → Bool
is_sat p set = list_any (satisfies p set) (assignments p.vars)

-- whether the set is a minimal conflict
unfoldable pub is_conflict : Problem → List ℕ → Bool
is_conflict p set = not (is_sat p set) && list_all (is_sat p) (proper_sublists set)

-- whether the set is a minimal correction
unfoldable pub is_correction : Problem → List ℕ → Bool
is_correction p set =
    is_sat p (complement p.groups set) && list_all (λ part. not (is_sat p (complement p.groups part))) (proper_sublists set)

-- all minimal conflicts, in lexicographic order
unfoldable pub conflicts : Problem → List (List ℕ)
conflicts p = filter (is_conflict p) (subsets p.groups)

-- all minimal corrections, in lexicographic order
unfoldable pub corrections : Problem → List (List ℕ)
corrections p = filter (is_correction p) (subsets p.groups)
