-- Two lists of witnesses become one.
use Rattle.std.proofs.Common.{◌≡◌, ℕ, Bool, true, false, not, List, [], ◌∷◌, ◌++◌, refl, sym, ap, subst}
use Rattle.std.specs.List.{filter}
use Rattle.std.proofs.lemmas.Bool.{false≢true, and_parts, cond-true, cond-false}
use Rattle.gm_base.specs.Sets.{has}
use Rattle.gm_base.specs.Evidence.{each_passes}
use Rattle.evidence_rec.proofs.EvidenceLemmas.{each_passes-push}

-- the groups so far have their witnesses; those of the groups ahead stand in two lists
pub record IsMerging (test : ℕ → List Bool → Bool) (last done ahead : List ℕ) (all others lasts : List (List Bool)) : Type 0 where
  pub merged : each_passes test done all ≡ true
  pub others_left : each_passes test (filter (λ g. not (has last g)) ahead) others ≡ true
  pub lasts_left : each_passes test (filter (has last) ahead) lasts ≡ true

-- the first item, if there is one, went to the end of the other list
abbrev pub Moves : List (List Bool) → List (List Bool) → List (List Bool) → List (List Bool) → Type 0
Moves from to from_then to_then =
    (w : List Bool) (rest : List (List Bool)) → from ≡ w ∷ rest → (to_then ≡ to ++ w ∷ []) × (from_then ≡ rest)

-- the list is not empty, and its first item serves the group
taken : (test : ℕ → List Bool → Bool) (g : ℕ) (done rest : List ℕ) (from to from_then to_then : List (List Bool))
    → each_passes test (g ∷ rest) from ≡ true → each_passes test done to ≡ true → Moves from to from_then to_then
    → (each_passes test (done ++ g ∷ []) to_then ≡ true) × (each_passes test rest from_then ≡ true)
taken test g done rest [] to from_then to_then h merged moves = absurd (false≢true h)
taken test g done rest (w ∷ ws) to from_then to_then h merged moves =
    let parts = and_parts (test g w) (each_passes test rest ws) h in
    let moved = moves w ws refl in (
      subst (λ xs. each_passes test (done ++ g ∷ []) xs ≡ true) (sym moved.0) (each_passes-push test done to g w merged parts.0),
      subst (λ xs. each_passes test rest xs ≡ true) (sym moved.1) parts.1,
    )

pub merging-last : (test : ℕ → List Bool → Bool) (last done rest : List ℕ) (g : ℕ) (all others lasts all_then lasts_then : List (List Bool))
    → has last g ≡ true → IsMerging test last done (g ∷ rest) all others lasts → Moves lasts all lasts_then all_then
    → IsMerging test last (done ++ g ∷ []) rest all_then others lasts_then
merging-last test last done rest g all others lasts all_then lasts_then inside h moves =
    let mine = subst (λ gs. each_passes test gs lasts ≡ true) (cond-true (has last g) (g ∷ filter (has last) rest) (filter (has last) rest) inside) h.lasts_left in
    let theirs = subst (λ gs. each_passes test gs others ≡ true)
    (cond-false (not (has last g)) (g ∷ filter (λ k. not (has last k)) rest) (filter (λ k. not (has last k)) rest) (ap not inside)) h.others_left in
    let next = taken test g done (filter (has last) rest) lasts all lasts_then all_then mine h.merged moves in
    record { merged = next.0; others_left = theirs; lasts_left = next.1 }

pub merging-other : (test : ℕ → List Bool → Bool) (last done rest : List ℕ) (g : ℕ) (all others lasts all_then others_then : List (List Bool))
    → has last g ≡ false → IsMerging test last done (g ∷ rest) all others lasts → Moves others all others_then all_then
    → IsMerging test last (done ++ g ∷ []) rest all_then others_then lasts
merging-other test last done rest g all others lasts all_then others_then out h moves =
    let mine = subst (λ gs. each_passes test gs others ≡ true)
    (cond-true (not (has last g)) (g ∷ filter (λ k. not (has last k)) rest) (filter (λ k. not (has last k)) rest) (ap not out)) h.others_left in
    let theirs = subst (λ gs. each_passes test gs lasts ≡ true) (cond-false (has last g) (g ∷ filter (has last) rest) (filter (has last) rest) out) h.lasts_left in
    let next = taken test g done (filter (λ k. not (has last k)) rest) others all others_then all_then mine h.merged moves in
    record { merged = next.0; others_left = next.1; lasts_left = theirs }
