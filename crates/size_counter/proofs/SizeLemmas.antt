-- How many groups a set has.
use Rattle.std.proofs.Common.{◌≡◌, ℕ, ◌<◌, ◌≤◌, Bool, true, false, not, ◌&&◌, List, [], ◌∷◌, length, refl, sym, ◌∙◌, ap, subst, inl, inr, eqb, arith}
use Rattle.std.specs.List.{filter}
use Rattle.std.proofs.lemmas.Bool.{false≢true, cases_Bool, or_cases, or_right, and_from, eqb-true, false_from_ne_true, cond-true, cond-false}
use Rattle.gm_base.specs.Sets.{AscendsAbove, IsGroupSet, has, IsSubset, without, all_groups}
use Rattle.gm_base.specs.declared.kind.Kind.{Kind}
use Rattle.gm_base.specs.declared.kind.Kind.TheVariants.{Conflict, Correction}
use Rattle.gm_base.proofs.SetLemmas.{has-filter, has-without, has-head, not_has-bound, complement_twice}
use Rattle.size_counter.specs.Sizes.{AreDistinct, seed_of, size_for}

-- no more numbers pass a test than there are
pub length-filter_le : (p : ℕ → Bool) (xs : List ℕ) → length (filter p xs) ≤ length xs
length-filter_le p [] = omega arith
length-filter_le p (x ∷ xs) =
    let rest = length-filter_le p xs in
    elim (cases_Bool (p x)) [
      | inl kept ↦ let is = ap length (cond-true (p x) (x ∷ filter p xs) (filter p xs) kept) in omega arith
      | inr dropped ↦ let is = ap length (cond-false (p x) (x ∷ filter p xs) (filter p xs) dropped) in omega arith
    ]

-- a list that has a number is longer than what is left without it
pub length-without : (xs : List ℕ) (g : ℕ) → has xs g ≡ true → length (without xs g) < length xs
length-without [] g h = absurd (false≢true h)
length-without (x ∷ xs) g h =
    let rest = length-filter_le (λ k. not (eqb k g)) xs in
    elim (cases_Bool (eqb x g)) [
      | inl here ↦
          let is = ap length (cond-false (not (eqb x g)) (x ∷ without xs g) (without xs g) (ap not here)) in omega arith
      | inr other ↦
          let is = ap length (cond-true (not (eqb x g)) (x ∷ without xs g) (without xs g) (ap not other)) in
          elim (or_cases (eqb x g) (has xs g) h) [
            | inl here ↦ absurd (false≢true (sym other ∙ here))
            | inr later ↦ let less = length-without xs g later in omega arith
          ]
    ]

-- each number takes one away from the other list, and the rest fits into what is left of it
pub distinct-fit : (xs ys : List ℕ) → AreDistinct xs → IsSubset xs ys → length xs ≤ length ys
distinct-fit [] ys distinct sub = omega arith
distinct-fit (x ∷ xs) ys distinct sub =
    let smaller = length-without ys x (sub x (has-head x xs)) in
    let rest = distinct-fit xs (without ys x) distinct.1 inside in
    omega arith
  where
    inside : IsSubset xs (without ys x)
    inside g i =
        let other : eqb g x ≡ false =
        false_from_ne_true (eqb g x) (λ e. false≢true (sym distinct.0 ∙ (sym (ap (has xs) (eqb-true g x e)) ∙ i))) in
        has-without ys x g ∙ and_from (not (eqb g x)) (has ys g) (ap not other) (sub g (or_right (eqb x g) (has xs g) i))

-- in an ascending list all that follows a number is above it
pub distinct-ascends : (low : ℕ) (gs : List ℕ) → AscendsAbove low gs → AreDistinct gs
distinct-ascends low [] h = tt
distinct-ascends low (g ∷ gs) h = (not_has-bound g g gs (omega arith) h.1, distinct-ascends g gs h.1)

-- what is left of numbers that differ differs
pub distinct-filter : (p : ℕ → Bool) (xs : List ℕ) → AreDistinct xs → AreDistinct (filter p xs)
distinct-filter p [] h = tt
distinct-filter p (x ∷ xs) h =
    let rest = distinct-filter p xs h.1 in
    elim (cases_Bool (p x)) [
      | inl kept ↦
          subst AreDistinct (sym (cond-true (p x) (x ∷ filter p xs) (filter p xs) kept))
          (has-filter p xs x ∙ ap (λ b. p x && b) h.0 ∙ and_false (p x), rest)
      | inr dropped ↦ subst AreDistinct (sym (cond-false (p x) (x ∷ filter p xs) (filter p xs) dropped)) rest
    ]
  where
    and_false : (b : Bool) → (b && false) ≡ false
    and_false true = refl
    and_false false = refl

-- a correction is what its complement leaves out
pub kind_has-size : (kind : Kind) (groups : ℕ) (set : List ℕ) → IsGroupSet set → IsSubset set (all_groups groups)
    → size_for kind groups (seed_of kind groups set) ≡ length set
kind_has-size Conflict groups set ok within = refl
kind_has-size Correction groups set ok within = ap length (complement_twice groups set ok within)
