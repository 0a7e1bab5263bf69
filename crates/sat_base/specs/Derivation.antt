-- Derivations by unit propagation along hints: the propagation part of LRAT (Cruz-Filipe, Heule, Hunt, Kaufmann and
-- Schneider-Kamp 2017).
use Rattle.std.specs.Prelude.{ℕ, ◌+◌, ◌-◌, ◌^◌, ◌≤◌, Bool, true, false, not, ◌==◌, ◌&&◌, List, [], ◌∷◌, ◌++◌, map, length, ℤ, neg_ℤ, nat_lt, nat_le, Option, Some, None, if◌then◌else◌, All}
use Rattle.std.specs.Ordering.{int_eq}
use Rattle.std.specs.List.{list_any, list_all, filter, find}
use Rattle.std.specs.Option.{option_map, option_map_or}
use Rattle.sat_base.specs.Literals.{var_of}

-- a clause with its id, and the ids of the clauses that it follows from
pub record Step : Type 0 where
  pub id : ℕ
  pub lits : List ℤ
  pub hints : List ℕ

-- steps, and the id of the clause that they are made for
pub record Derivation : Type 0 where
  pub steps : List Step
  pub goal : ℕ

-- the greatest number of an id
abbrev pub max_id : ℕ
max_id = 2 ^ 63 - 1

-- what the type of a derivation keeps: the ids, the hints and the goal are at most the greatest id
pub record HasIds (d : Derivation) : Type 0 where
  pub ids : All (λ (s : Step). s.id ≤ max_id) d.steps
  pub hints : All (λ (s : Step). All (λ h. h ≤ max_id) s.hints) d.steps
  pub goal : d.goal ≤ max_id

-- clauses under their ids, which rise from the first
abbrev pub numbered : ℕ → List (List ℤ) → List (ℕ × List ℤ)
numbered from [] = []
numbered from (c ∷ cs) = (from, c) ∷ numbered (from + 1) cs

-- the clause of an id
abbrev pub clause_of : List (ℕ × List ℤ) → ℕ → Option (List ℤ)
clause_of known id = option_map (λ (e : ℕ × List ℤ). e.1) (find (λ (e : ℕ × List ℤ). e.0 == id) known)

abbrev pub contains_lit : List ℤ → ℤ → Bool
contains_lit lits l = list_any (λ m. int_eq m l) lits

-- the literals of a clause that are not among the false ones
abbrev pub open_lits : List ℤ → List ℤ → List ℤ
open_lits falses clause = filter (λ l. not (contains_lit falses l)) clause

-- the one literal of a list, which may be repeated
abbrev pub only_lit : List ℤ → Option ℤ
only_lit [] = None
only_lit (l ∷ ls) = if list_all (int_eq l) ls then Some l else None

abbrev pub is_nil : List ℤ → Bool
is_nil [] = true
is_nil (l ∷ ls) = false

-- where these literals are false, each hint but the last names a clause with exactly one literal that is not false, which
-- becomes true, and the last names a clause that is wholly false
abbrev pub follows : List (ℕ × List ℤ) → List ℤ → List ℕ → Bool
follows known falses [] = false
follows known falses (h ∷ []) = option_map_or (λ c. is_nil (open_lits falses c)) (clause_of known h) false
follows known falses (h ∷ h' ∷ hs) =
    option_map_or
    (λ c. option_map_or (λ l. follows known (neg_ℤ l ∷ falses) (h' ∷ hs)) (only_lit (open_lits falses c)) false)
    (clause_of known h)
    false

-- literals over the variables 1 to vars, and none together with its negation
abbrev pub is_step_clause : ℕ → List ℤ → Bool
is_step_clause vars lits =
    list_all (λ l. nat_lt 0 (var_of l) && nat_le (var_of l) vars && not (contains_lit lits (neg_ℤ l))) lits

-- the ids rise above the last one, and each step's clause follows from the clauses that are known before it
abbrev pub steps_follow : ℕ → ℕ → List (ℕ × List ℤ) → List Step → Bool
steps_follow vars last known [] = true
steps_follow vars last known (s ∷ ss) =
    nat_lt last s.id && is_step_clause vars s.lits && follows known s.lits s.hints
    && steps_follow vars s.id (known ++ (s.id, s.lits) ∷ []) ss

-- steps from the input clauses, whose ids are 1, 2, and so on
abbrev pub is_derivation : ℕ → List (List ℤ) → Derivation → Bool
is_derivation vars inputs d = steps_follow vars (length inputs) (numbered 1 inputs) d.steps

-- all clauses that a derivation's goal may name: the inputs, and then the steps
abbrev pub all_known : List (List ℤ) → List Step → List (ℕ × List ℤ)
all_known inputs steps = numbered 1 inputs ++ map (λ (s : Step). (s.id, s.lits)) steps

-- a derivation whose goal is a clause of such literals only
abbrev pub derives_within : ℕ → List (List ℤ) → Derivation → (ℤ → Bool) → Bool
derives_within vars inputs d allowed =
    is_derivation vars inputs d && option_map_or (λ c. list_all allowed c) (clause_of (all_known inputs d.steps) d.goal) false
