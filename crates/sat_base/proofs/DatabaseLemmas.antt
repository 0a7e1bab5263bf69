-- Clauses under their ids, and what more clauses keep.
use Rattle.std.proofs.Common.{◌≡◌, ◌≢◌, ◌⊎◌, ℕ, zero, suc, ◌+◌, ◌-◌, ◌<◌, ◌≤◌, Bool, true, eqb, List, [], ◌∷◌, ◌++◌, map, length, get_or, take, Some, refl, sym, ◌∙◌, ap, subst, inl, inr, arith}
use Rattle.std.specs.Prelude.{ℤ}
use Rattle.std.specs.List.{find}
use Rattle.std.specs.Option.{option_map}
use Rattle.std.proofs.lemmas.Bool.{cond-true, cond-false, eq-eqb, ne_eqb, cases_eq}
use Rattle.std.proofs.lemmas.List.{length-map, get_or-map, take_more}
use Rattle.sat_base.specs.Members.{In}
use Rattle.sat_base.specs.Derivation.{numbered, clause_of}
use Rattle.sat_base.specs.Database.{StoredClause, known_of, IsLive}
use Rattle.sat_base.proofs.Members.{In-append_cases, In-append_left, In-append_right}

pub get_in : {X : Type 0} (xs : List X) (i : ℕ) (d : X) → i < length xs → In (get_or xs i d) xs
get_in [] i d h = absurd (omega arith)
get_in (x ∷ xs) zero d h = inl refl
get_in (x ∷ xs) (suc i) d h = inr (get_in xs i d (omega arith))

pub In-take_more : {X : Type 0} (xs : List X) (i : ℕ) (d x : X) → i < length xs → In x (take (i + 1) xs) → In x (take i xs) ⊎ (x ≡ get_or xs i d)
In-take_more xs i d x h found =
    elim (In-append_cases x (take i xs) (get_or xs i d ∷ []) (subst (In x) (take_more xs i d h) found)) [
      | inl old ↦ inl old
      | inr (inl same) ↦ inr same
      | inr (inr none) ↦ absurd none
    ]

pub In-take_old : {X : Type 0} (xs : List X) (i : ℕ) (d x : X) → i < length xs → In x (take i xs) → In x (take (i + 1) xs)
In-take_old xs i d x h found = subst (In x) (sym (take_more xs i d h)) (In-append_left x (take i xs) (get_or xs i d ∷ []) found)

pub In-take_new : {X : Type 0} (xs : List X) (i : ℕ) (d : X) → i < length xs → In (get_or xs i d) (take (i + 1) xs)
In-take_new xs i d h = subst (In (get_or xs i d)) (sym (take_more xs i d h)) (In-append_right (get_or xs i d) (take i xs) (get_or xs i d ∷ []) (inl refl))

clause_of-here : (from : ℕ) (c : List ℤ) (cs : List (List ℤ)) → clause_of (numbered from (c ∷ cs)) from ≡ Some c
clause_of-here from c cs =
    ap (option_map (λ (e : ℕ × List ℤ). e.1)) (cond-true (eqb from from) (Some (from, c)) (find (λ (e : ℕ × List ℤ). eqb e.0 from) (numbered (from + 1) cs)) (eq-eqb from from refl))

clause_of-later : (from id : ℕ) (c : List ℤ) (cs : List (List ℤ)) → from ≢ id → clause_of (numbered from (c ∷ cs)) id ≡ clause_of (numbered (from + 1) cs) id
clause_of-later from id c cs other =
    ap (option_map (λ (e : ℕ × List ℤ). e.1)) (cond-false (eqb from id) (Some (from, c)) (find (λ (e : ℕ × List ℤ). eqb e.0 id) (numbered (from + 1) cs)) (ne_eqb from id other))

clause_of-numbered : (cs : List (List ℤ)) (from at : ℕ) (d : List ℤ) → at < length cs → clause_of (numbered from cs) (from + at) ≡ Some (get_or cs at d)
clause_of-numbered [] from at d lt = absurd (omega arith)
clause_of-numbered (c ∷ cs) from zero d lt =
    let same : from + 0 ≡ from = omega arith in ap (clause_of (numbered from (c ∷ cs))) same ∙ clause_of-here from c cs
clause_of-numbered (c ∷ cs) from (suc at) d lt =
    let next : from + suc at ≡ from + 1 + at = omega arith in
    clause_of-later from (from + suc at) c cs (λ e. absurd (omega arith))
    ∙ ap (clause_of (numbered (from + 1) cs)) next ∙ clause_of-numbered cs (from + 1) at d (omega arith)

clause_of-more : (cs more : List (List ℤ)) (from id : ℕ) (c : List ℤ) → clause_of (numbered from cs) id ≡ Some c → clause_of (numbered from (cs ++ more)) id ≡ Some c
clause_of-more [] more from id c h = cc
clause_of-more (x ∷ xs) more from id c h = elim (cases_eq from id) [
  | inl same ↦
      subst (λ k. clause_of (numbered from (x ∷ (xs ++ more))) k ≡ Some c) same
      (clause_of-here from x (xs ++ more) ∙ sym (clause_of-here from x xs) ∙ ap (clause_of (numbered from (x ∷ xs))) same ∙ h)
  | inr other ↦ clause_of-later from id x (xs ++ more) other ∙ clause_of-more xs more (from + 1) id c (sym (clause_of-later from id x xs other) ∙ h)
]

clause_of-range : (cs : List (List ℤ)) (from id : ℕ) (c : List ℤ) → clause_of (numbered from cs) id ≡ Some c → (from ≤ id) × (id < from + length cs)
clause_of-range [] from id c h = cc
clause_of-range (x ∷ xs) from id c h = elim (cases_eq from id) [
  | inl same ↦ (omega arith, omega arith)
  | inr other ↦
      let rest = clause_of-range xs (from + 1) id c (sym (clause_of-later from id x xs other) ∙ h) in
      let low = rest.0 in
      let high = rest.1 in
      (omega arith, omega arith)
]

map-append : (db more : List StoredClause) → map (λ (c : StoredClause). c.lits) (db ++ more) ≡ map (λ (c : StoredClause). c.lits) db ++ map (λ (c : StoredClause). c.lits) more
map-append [] more = refl
map-append (c ∷ db) more = ap (λ (cs : List (List ℤ)). c.lits ∷ cs) (map-append db more)

-- a name stays as clauses are added
pub named_more : (db more : List StoredClause) (id : ℕ) (c : List ℤ) → clause_of (known_of db) id ≡ Some c → clause_of (known_of (db ++ more)) id ≡ Some c
named_more db more id c h =
    ap (λ (cs : List (List ℤ)). clause_of (numbered 1 cs) id) (map-append db more)
    ∙ clause_of-more (map (λ (c : StoredClause). c.lits) db) (map (λ (c : StoredClause). c.lits) more) 1 id c h

-- the clause at that place is named; a store that falls back on `none` gives it
pub named_at : (db : List StoredClause) (id : ℕ) (none : StoredClause) → 0 < id → id ≤ length db → clause_of (known_of db) id ≡ Some (get_or db (id - 1) none).lits
named_at db id none low high =
    let lits : StoredClause → List ℤ = λ (c : StoredClause). c.lits in
    let len = length-map db lits in
    let same : id ≡ 1 + (id - 1) = omega arith in
    ap (clause_of (known_of db)) same ∙ clause_of-numbered (map lits db) 1 (id - 1) [] (omega (arith, len))
    ∙ ap Some (get_or-map lits db (id - 1) none [] (omega arith))

pub named_range : (db : List StoredClause) (id : ℕ) (c : List ℤ) → clause_of (known_of db) id ≡ Some c → (0 < id) × (id ≤ length db)
named_range db id c h =
    let range = clause_of-range (map (λ (c : StoredClause). c.lits) db) 1 id c h in
    let low = range.0 in
    let high = range.1 in
    let len = length-map db (λ (c : StoredClause). c.lits) in
    (omega arith, omega (arith, high, len))

-- and the other way: the named clause is what the store gives
pub named_is : (db : List StoredClause) (id : ℕ) (none : StoredClause) (c : List ℤ) → clause_of (known_of db) id ≡ Some c → (get_or db (id - 1) none).lits ≡ c
named_is db id none c h =
    let range = named_range db id c h in
    let at = named_at db id none range.0 range.1 in
    let both : Some (get_or db (id - 1) none).lits ≡ Some c = sym at ∙ h in
    cc

pub live_at : (db : List StoredClause) (id : ℕ) (none : StoredClause) → 0 < id → id ≤ length db → (get_or db (id - 1) none).live ≡ true → IsLive db (get_or db (id - 1) none).lits
live_at db id none low high live =
    subst (λ (b : Bool). In (record { lits = (get_or db (id - 1) none).lits; live = b }) db) live (get_in db (id - 1) none (omega arith))
