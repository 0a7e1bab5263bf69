-- What a derivation derives is true wherever its inputs are.
use Rattle.std.proofs.Common.{◌≡◌, ℕ, Bool, true, false, not, ◌&&◌, cond, List, [], ◌∷◌, ◌++◌, map, length, Option, Some, None, refl, subst, eqb, ltb, leb, append_assoc}
use Rattle.std.specs.Prelude.{ℤ, neg_ℤ}
use Rattle.std.specs.List.{list_all, find}
use Rattle.std.specs.Option.{option_map, option_map_or}
use Rattle.std.proofs.lemmas.Bool.{false≢true, and_parts, ltb-true, leb-true}
use Rattle.sat_base.specs.Literals.{var_of, IsLiteral, literal_true, clause_true}
use Rattle.sat_base.specs.Derivation.{Step, Derivation, numbered, clause_of, contains_lit, follows, is_step_clause, steps_follow, is_derivation, all_known, derives_within}
use Rattle.sat_base.specs.Members.{In}
use Rattle.sat_base.proofs.Members.{all_at, any_from}
use Rattle.sat_base.proofs.FollowsLemmas.{KnownHold, follows-true}

-- the clause is true, and its literals are over the variables
abbrev pub Good : ℕ → List Bool → List ℤ → Type 0
Good vars a clause = (clause_true a clause ≡ true) × ((l : ℤ) → In l clause → IsLiteral vars l)

abbrev pub AllGood : ℕ → List Bool → List (ℕ × List ℤ) → Type 0
AllGood vars a [] = Unit {0}
AllGood vars a (e ∷ es) = Good vars a e.1 × AllGood vars a es

good_named : (vars : ℕ) (a : List Bool) (id : ℕ) (known : List (ℕ × List ℤ)) (c : List ℤ) → AllGood vars a known → clause_of known id ≡ Some c → Good vars a c
good_named vars a id [] c good e = cc
good_named vars a id (x ∷ xs) c good e = here (eqb x.0 id) e (good_named vars a id xs c good.1)
  where
    here : (b : Bool) → option_map (λ (y : ℕ × List ℤ). y.1) (cond b (Some x) (find (λ (y : ℕ × List ℤ). eqb y.0 id) xs)) ≡ Some c
        → (clause_of xs id ≡ Some c → Good vars a c) → Good vars a c
    here true h rest = let same : x.1 ≡ c = cc in subst (Good vars a) same good.0
    here false h rest = rest h

known-hold : (vars : ℕ) (a : List Bool) (known : List (ℕ × List ℤ)) → AllGood vars a known → KnownHold a known
known-hold vars a known good id c e =
    let named = good_named vars a id known c good e in record { is_true = named.0; not_zero = λ l i. (named.1 l i).not_zero }

AllGood-append : (vars : ℕ) (a : List Bool) (xs ys : List (ℕ × List ℤ)) → AllGood vars a xs → AllGood vars a ys → AllGood vars a (xs ++ ys)
AllGood-append vars a [] ys p q = q
AllGood-append vars a (x ∷ xs) ys p q = (p.0, AllGood-append vars a xs ys p.1 q)

good_step : (vars : ℕ) (a : List Bool) (known : List (ℕ × List ℤ)) (lits : List ℤ) (hints : List ℕ) → AllGood vars a known
    → is_step_clause vars lits ≡ true → follows known lits hints ≡ true → Good vars a lits
good_step vars a known lits hints good shape f =
    let test = λ (l : ℤ). ltb 0 (var_of l) && leb (var_of l) vars && not (contains_lit lits (neg_ℤ l)) in (
      follows-true a known lits hints (known-hold vars a known good) f,
      λ l i.
          let parts = and_parts (ltb 0 (var_of l) && leb (var_of l) vars) (not (contains_lit lits (neg_ℤ l))) (all_at test lits l shape i) in
          let range = and_parts (ltb 0 (var_of l)) (leb (var_of l) vars) parts.0 in
          record { not_zero = ltb-true 0 (var_of l) range.0; in_range = leb-true (var_of l) vars range.1 },
    )

pub steps-sound : (vars : ℕ) (a : List Bool) (last : ℕ) (known : List (ℕ × List ℤ)) (steps : List Step) → AllGood vars a known
    → steps_follow vars last known steps ≡ true → AllGood vars a (known ++ map (λ (s : Step). (s.id, s.lits)) steps)
steps-sound vars a last known [] good h = AllGood-append vars a known [] good tt
steps-sound vars a last known (s ∷ ss) good h =
    let outer = and_parts (ltb last s.id && is_step_clause vars s.lits && follows known s.lits s.hints) (steps_follow vars s.id (known ++ (s.id, s.lits) ∷ []) ss) h in
    let inner = and_parts (ltb last s.id && is_step_clause vars s.lits) (follows known s.lits s.hints) outer.0 in
    let shape = (and_parts (ltb last s.id) (is_step_clause vars s.lits) inner.0).1 in
    let more = AllGood-append vars a known ((s.id, s.lits) ∷ []) good (good_step vars a known s.lits s.hints good shape inner.1, tt) in
    subst (AllGood vars a) (append_assoc known ((s.id, s.lits) ∷ []) (map (λ (t : Step). (t.id, t.lits)) ss)) (steps-sound vars a s.id (known ++ (s.id, s.lits) ∷ []) ss more outer.1)

-- some literal that the goal may have is true
pub derives-sound : (vars : ℕ) (a : List Bool) (inputs : List (List ℤ)) (d : Derivation) (allowed : ℤ → Bool) → AllGood vars a (numbered 1 inputs)
    → derives_within vars inputs d allowed ≡ true → (l : ℤ) × (allowed l ≡ true) × (literal_true a l ≡ true) × IsLiteral vars l
derives-sound vars a inputs d allowed good h =
    let parts = and_parts (is_derivation vars inputs d) (option_map_or (λ c. list_all allowed c) (clause_of (all_known inputs d.steps) d.goal) false) h in
    goal (clause_of (all_known inputs d.steps) d.goal) refl parts.1
    (steps-sound vars a (length inputs) (numbered 1 inputs) d.steps good parts.0)
  where
    goal : (o : Option (List ℤ)) → clause_of (all_known inputs d.steps) d.goal ≡ o → option_map_or (λ c. list_all allowed c) o false ≡ true
        → AllGood vars a (all_known inputs d.steps) → (l : ℤ) × (allowed l ≡ true) × (literal_true a l ≡ true) × IsLiteral vars l
    goal None e t all = absurd (false≢true t)
    goal (Some c) e t all =
        let ok = good_named vars a d.goal (all_known inputs d.steps) c all e in
        let (m, i, made) = any_from (literal_true a) c ok.0 in
        (m, all_at allowed c m t i, made, ok.1 m i)
