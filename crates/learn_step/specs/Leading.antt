-- Hints that lead from false literals to a false clause, built from the last to the first (LRAT: Cruz-Filipe and others
-- 2017).
use Rattle.std.specs.Prelude.{◌≡◌, ◌⊎◌, ℕ, true, List, [], ◌∷◌, ℤ, neg_ℤ, Some}
use Rattle.sat_base.specs.Members.{In}
use Rattle.sat_base.specs.Derivation.{clause_of, contains_lit}

-- each literal of the clause is among these
abbrev pub AllAmong : List ℤ → List ℤ → Type 0
AllAmong falses clause = (m : ℤ) → In m clause → contains_lit falses m ≡ true

-- each literal of the clause but this one is among these
abbrev pub AllAmongBut : List ℤ → List ℤ → ℤ → Type 0
AllAmongBut falses clause but = (m : ℤ) → In m clause → (m ≡ but) ⊎ (contains_lit falses m ≡ true)

-- the hints lead from these false literals to a false clause, each through a literal that is true
abbrev pub Leads : List (ℕ × List ℤ) → List ℤ → List ℤ → List ℕ → Type 0
Leads known trues falses [] = ⊥
Leads known trues falses (h ∷ []) = (c : List ℤ) × (clause_of known h ≡ Some c) × AllAmong falses c
Leads known trues falses (h ∷ h' ∷ hs) =
    (c : List ℤ) × (l : ℤ) × (clause_of known h ≡ Some c) × In l c × (contains_lit trues l ≡ true) × AllAmongBut falses c l
    × Leads known trues (neg_ℤ l ∷ falses) (h' ∷ hs)
