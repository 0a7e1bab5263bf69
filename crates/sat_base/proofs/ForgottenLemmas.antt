-- What forgetting a clause keeps.
use Rattle.std.proofs.Common.{◌≡◌, ◌≢◌, ◌⊎◌, ℕ, zero, suc, ◌-◌, true, false, List, [], ◌∷◌, map, length, get_or, set, refl, sym, ap, subst, inl, inr}
use Rattle.std.specs.Prelude.{ℤ}
use Rattle.std.proofs.lemmas.Bool.{false≢true}
use Rattle.std.proofs.lemmas.List.{length-set, get_or-set_other, set_past}
use Rattle.std.proofs.lemmas.Bool.{cases_lt}
use Rattle.sat_base.specs.Members.{In}
use Rattle.sat_base.specs.Derivation.{numbered}
use Rattle.sat_base.specs.Database.{StoredClause, known_of, IsLive}
use Rattle.sat_base.specs.Forgotten.{not_live, named, forgotten}
use Rattle.sat_base.proofs.DatabaseLemmas.{get_in}

pub length-forgotten : (db : List StoredClause) (id : ℕ) → length (forgotten db id) ≡ length db
length-forgotten db id = length-set db (id - 1) (not_live (named db id))

lits-set : (db : List StoredClause) (at : ℕ) (d : StoredClause) → map (λ (c : StoredClause). c.lits) (set db at (not_live (get_or db at d))) ≡ map (λ (c : StoredClause). c.lits) db
lits-set [] at d = refl
lits-set (c ∷ db) zero d = refl
lits-set (c ∷ db) (suc at) d = ap (λ (rest : List (List ℤ)). c.lits ∷ rest) (lits-set db at d)

pub lits-forgotten : (db : List StoredClause) (id : ℕ) → map (λ (c : StoredClause). c.lits) (forgotten db id) ≡ map (λ (c : StoredClause). c.lits) db
lits-forgotten db id = lits-set db (id - 1) (record { lits = []; live = false })

-- the clauses under their ids are the same
pub known-forgotten : (db : List StoredClause) (id : ℕ) → known_of (forgotten db id) ≡ known_of db
known-forgotten db id = ap (numbered 1) (lits-forgotten db id)

In-set : {X : Type 0} (xs : List X) (at : ℕ) (x y : X) → In y (set xs at x) → (y ≡ x) ⊎ In y xs
In-set [] at x y i = absurd i
In-set (z ∷ xs) zero x y (inl same) = inl same
In-set (z ∷ xs) zero x y (inr i) = inr (inr i)
In-set (z ∷ xs) (suc at) x y (inl same) = inr (inl same)
In-set (z ∷ xs) (suc at) x y (inr i) = elim (In-set xs at x y i) [ inl same ↦ inl same | inr older ↦ inr (inr older) ]

-- what is live was so before
pub live-before : (db : List StoredClause) (id : ℕ) (lits : List ℤ) → IsLive (forgotten db id) lits → IsLive db lits
live-before db id lits i = elim (In-set db (id - 1) (not_live (named db id)) (record { lits = lits; live = true }) i) [
  | inl same ↦ absurd (false≢true (sym (ap (λ (c : StoredClause). c.live) same)))
  | inr older ↦ older
]

-- the literals of each clause stood there before
pub clause-before : (db : List StoredClause) (id : ℕ) (c : StoredClause) → In c (forgotten db id) → (d : StoredClause) × In d db × (d.lits ≡ c.lits)
clause-before db id c i = elim (cases_lt (id - 1) (length db)) [
  | inl within ↦ elim (In-set db (id - 1) (not_live (named db id)) c i) [
    | inl same ↦ (named db id, get_in db (id - 1) (record { lits = []; live = false }) within, sym (ap (λ (k : StoredClause). k.lits) same))
    | inr older ↦ (c, older, refl)
  ]
  | inr past ↦ (c, subst (In c) (set_past db (id - 1) (not_live (named db id)) past) i, refl)
]

-- the clause of another id is the same
pub get_or-forgotten_other : (db : List StoredClause) (id at : ℕ) (d : StoredClause) → at ≢ id - 1 → get_or (forgotten db id) at d ≡ get_or db at d
get_or-forgotten_other db id at d other = get_or-set_other db (id - 1) at (not_live (named db id)) d other
