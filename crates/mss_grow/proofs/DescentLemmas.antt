-- Lemmas on growing from above.
use Rattle.std.proofs.Common.{rules, ◌≡◌, ℕ, ◌<◌, ◌≤◌, ◌+◌, Bool, true, false, not, cond, List, [], ◌∷◌, length, refl, sym, ◌∙◌, ap, subst, inl, inr, arith, eqb}
use Rattle.std.proofs.lemmas.Bool.{false≢true, and_parts, and_from, or_cases, cond-true, cond-false, cases_Bool, eqb-true, false_from_ne_true}
use Rattle.gm_base.specs.Sets.{has, IsSubset, without, all_groups, complement}
use Rattle.gm_base.proofs.SetLemmas.{has-without, has-complement-parts, has-complement-from}
use Rattle.evidence_rec.specs.Asking.{asked_once}
use Rattle.mss_grow.specs.Growth.{left_out}
use Rattle.mss_grow.proofs.GrowthLemmas.{left_out-twice}

-- The set at hand

-- one group less, which is not in the given set
pub keeps-without : (set large : List ℕ) (g : ℕ) → IsSubset set large → has set g ≡ false → IsSubset set (without large g)
keeps-without set large g keeps out k inside =
    has-without large g k
    ∙ and_from (not (eqb k g)) (has large k)
    (ap not (false_from_ne_true (eqb k g) (λ e. false≢true (sym out ∙ subst (λ h. has set h ≡ true) (eqb-true k g e) inside)))) (keeps k inside)

-- nor is a group added by that
pub within-without : (large all : List ℕ) (g : ℕ) → IsSubset large all → IsSubset (without large g) all
within-without large all g within k inside = within k (and_parts (not (eqb k g)) (has large k) (sym (has-without large g k) ∙ inside)).1

-- it begins with all groups
pub keeps-all : (groups : ℕ) (set : List ℕ) → IsSubset set (all_groups groups) → IsSubset set (complement groups [])
keeps-all groups set within g inside = has-complement-from groups [] g (within g inside) refl

-- and has no others
pub within-all : (groups : ℕ) → IsSubset (complement groups []) (all_groups groups)
within-all groups g inside = (has-complement-parts groups [] g inside).1

-- How many groups it has that are not in the given set

-- a front that may be there makes no list shorter
length-front_least : (b : Bool) (x : ℕ) (xs : List ℕ) → length xs ≤ length (cond b (x ∷ xs) xs)
length-front_least true x xs = omega arith
length-front_least false x xs = omega arith

-- and longer by one at most
length-front_most : (b : Bool) (x : ℕ) (xs : List ℕ) → length (cond b (x ∷ xs) xs) ≤ length xs + 1
length-front_most true x xs = omega arith
length-front_most false x xs = omega arith

-- the same front before both keeps which of them is longer
length-fronts : (b : Bool) (x : ℕ) (xs ys : List ℕ) → length xs ≤ length ys → length (cond b (x ∷ xs) xs) ≤ length (cond b (x ∷ ys) ys)
length-fronts true x xs ys h = omega (arith, h)
length-fronts false x xs ys h = h

-- also where it is longer by one or more
length-fronts_less : (b : Bool) (x : ℕ) (xs ys : List ℕ) → length xs < length ys → length (cond b (x ∷ xs) xs) < length (cond b (x ∷ ys) ys)
length-fronts_less true x xs ys h = omega (arith, h)
length-fronts_less false x xs ys h = h

-- to take out a group leaves out no more of them
left_out-without : (set gs : List ℕ) (g : ℕ) → length (left_out set (without gs g)) ≤ length (left_out set gs)
left_out-without set [] g = omega arith
left_out-without set (x ∷ xs) g =
    let rest = left_out-without set xs g in
    elim (eqb x g) as (λ b. length (left_out set (cond (not b) (x ∷ without xs g) (without xs g))) ≤ length (left_out set (x ∷ xs))) [
      | true ↦ omega (arith, rest, length-front_least (not (has set x)) x (left_out set xs))
      | false ↦ length-fronts (not (has set x)) x (left_out set (without xs g)) (left_out set xs) rest
    ]

-- to take out one that was left out of the given set leaves out fewer
pub left_out-falls : (set gs : List ℕ) (g : ℕ) → has gs g ≡ true → has set g ≡ false → length (left_out set (without gs g)) < length (left_out set gs)
left_out-falls set [] g inside out = absurd (false≢true inside)
left_out-falls set (x ∷ xs) g inside out =
    elim (or_cases (eqb x g) (has xs g) inside) [
      | inl first ↦
          let gone : without (x ∷ xs) g ≡ without xs g = cond-false (not (eqb x g)) (x ∷ without xs g) (without xs g) (ap not first) in
          let counted : left_out set (x ∷ xs) ≡ x ∷ left_out set xs =
          cond-true (not (has set x)) (x ∷ left_out set xs) (left_out set xs) (ap not (ap (has set) (eqb-true x g first) ∙ out)) in
          omega (arith, ap (λ ys. length (left_out set ys)) gone, ap length counted, left_out-without set xs g)
      | inr later ↦
          let rest = left_out-falls set xs g later out in
          elim (eqb x g) as (λ b. length (left_out set (cond (not b) (x ∷ without xs g) (without xs g))) < length (left_out set (x ∷ xs))) [
            | true ↦ omega (arith, rest, length-front_least (not (has set x)) x (left_out set xs))
            | false ↦ length-fronts_less (not (has set x)) x (left_out set (without xs g)) (left_out set xs) rest
          ]
    ]

-- of all groups it has those outside of the given set
pub left_out-all : (groups : ℕ) (set : List ℕ) → left_out set (complement groups []) ≡ complement groups set
left_out-all groups set = left_out-twice [] set (λ g inside. absurd (false≢true inside)) (all_groups groups)

-- a larger set leaves out no more
left_out-fewer : (small large : List ℕ) → IsSubset small large → (gs : List ℕ) → length (left_out large gs) ≤ length (left_out small gs)
left_out-fewer small large sub [] = omega arith
left_out-fewer small large sub (g ∷ gs) =
    let rest = left_out-fewer small large sub gs in
    elim (cases_Bool (has small g)) [
      | inl inside ↦
          omega (
            arith,
            rest,
            ap length (cond-false (not (has small g)) (g ∷ left_out small gs) (left_out small gs) (ap not inside)),
            ap length (cond-false (not (has large g)) (g ∷ left_out large gs) (left_out large gs) (ap not (sub g inside))),
          )
      | inr out ↦
          omega (
            arith,
            rest,
            ap length (cond-true (not (has small g)) (g ∷ left_out small gs) (left_out small gs) (ap not out)),
            length-front_most (not (has large g)) g (left_out large gs),
          )
    ]

-- a larger set lacks no more groups
pub complement-fewer : (groups : ℕ) (small large : List ℕ) → IsSubset small large → length (complement groups large) ≤ length (complement groups small)
complement-fewer groups small large sub = left_out-fewer small large sub (all_groups groups)

-- a question counts once at most
pub asked_once-most : (asks : ℕ) → asked_once asks ≤ asks + 1
asked_once-most asks = search rules
