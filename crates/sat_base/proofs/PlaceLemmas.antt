-- Lemmas on the places of ascending numbers.
use Rattle.std.proofs.Common.{◌≡◌, ◌≢◌, ℕ, zero, suc, ◌+◌, ◌<◌, ◌≤◌, eqb, Bool, true, List, [], ◌∷◌, ◌++◌, length, get_or, All, Result, Ok, Err, MatchResult, refl, sym, ◌∙◌, ap, inl, inr, arith}
use Rattle.std.specs.Ordering.{nat_cmp}
use Rattle.std.specs.List.Sorted.{IsBinarySearchResult}
use Rattle.std.proofs.lemmas.Bool.{cases_eq, cases_lt, cond-true, cond-false, eq-eqb, ne_eqb}
use Rattle.std.proofs.lemmas.List.Sorted.{searched}
use Rattle.sat_base.specs.Members.{In}
use Rattle.sat_base.proofs.Members.{In-append_cases}
use Rattle.sat_base.proofs.DatabaseLemmas.{get_in}
use Rattle.sat_base.specs.Numbering.{Ascends, place_in}

place-here : (x n : ℕ) (xs : List ℕ) → x ≡ n → place_in (x ∷ xs) n ≡ 0
place-here x n xs same = cond-true (eqb x n) 0 (place_in xs n + 1) (eq-eqb x n same)

place-later : (x n : ℕ) (xs : List ℕ) → x ≢ n → place_in (x ∷ xs) n ≡ place_in xs n + 1
place-later x n xs other = cond-false (eqb x n) 0 (place_in xs n + 1) (ne_eqb x n other)

In-tail : (x n : ℕ) (xs : List ℕ) → x ≢ n → In n (x ∷ xs) → In n xs
In-tail x n xs other (inl same) = absurd (other (sym same))
In-tail x n xs other (inr later) = later

-- a member stands at its place
pub place_has : (xs : List ℕ) (n : ℕ) → In n xs → (place_in xs n < length xs) × ((d : ℕ) → get_or xs (place_in xs n) d ≡ n)
place_has [] n i = absurd i
place_has (x ∷ xs) n i =
    elim (cases_eq x n) [
      | inl same ↦
          let here = place-here x n xs same in
          (omega arith, λ d. ap (λ k. get_or (x ∷ xs) k d) here ∙ same)
      | inr other ↦
          let later = place-later x n xs other in
          let rest = place_has xs n (In-tail x n xs other i) in
          let lt = rest.0 in
          let next : place_in (x ∷ xs) n ≡ suc (place_in xs n) = omega arith in
          (omega arith, λ d. ap (λ k. get_or (x ∷ xs) k d) next ∙ rest.1 d)
    ]

-- what comes later in ascending numbers does not come first
pub place_at : (xs : List ℕ) (at d : ℕ) → Ascends xs → at < length xs → place_in xs (get_or xs at d) ≡ at
place_at [] at d up lt = absurd (omega arith)
place_at (x ∷ xs) zero d up lt = place-here x x xs refl
place_at (x ∷ xs) (suc at) d up lt =
    let within : at < length xs = omega arith in
    let above : x < get_or xs at d = up.0 (get_or xs at d) (get_in xs at d within) in
    let rest = place_at xs at d up.1 within in
    let later = place-later x (get_or xs at d) xs (λ e. absurd (omega arith)) in
    omega arith

-- a number is above its place
pub place_below : (xs : List ℕ) (low n : ℕ) → Ascends xs → ((m : ℕ) → In m xs → low < m) → In n xs → low + place_in xs n < n
place_below [] low n up above i = absurd i
place_below (x ∷ xs) low n up above i =
    elim (cases_eq x n) [
      | inl same ↦
          let here = place-here x n xs same in
          let lower = above x (inl refl) in
          omega arith
      | inr other ↦
          let later = place-later x n xs other in
          let lower = above x (inl refl) in
          let rest = place_below xs x n up.1 up.0 (In-tail x n xs other i) in
          omega arith
    ]

-- more numbers at the end leave a place
pub place-append : (xs more : List ℕ) (n : ℕ) → In n xs → place_in (xs ++ more) n ≡ place_in xs n
place-append [] more n i = absurd i
place-append (x ∷ xs) more n i =
    elim (cases_eq x n) [
      | inl same ↦ place-here x n (xs ++ more) same ∙ sym (place-here x n xs same)
      | inr other ↦ place-later x n (xs ++ more) other ∙ ap (λ k. k + 1) (place-append xs more n (In-tail x n xs other i)) ∙ sym (place-later x n xs other)
    ]

-- what stands behind ascending numbers ascends
pub Ascends-behind : (xs ys : List ℕ) → Ascends (xs ++ ys) → Ascends ys
Ascends-behind [] ys up = up
Ascends-behind (x ∷ xs) ys up = Ascends-behind xs ys up.1

-- a member that is below one that stands later stands before it
pub In-before : (xs ys : List ℕ) (x n : ℕ) → Ascends (xs ++ x ∷ ys) → n < x → In n (xs ++ x ∷ ys) → In n xs
In-before xs ys x n up lower i =
    elim (In-append_cases n xs (x ∷ ys) i) [
      | inl before ↦ before
      | inr (inl same) ↦ absurd (omega arith)
      | inr (inr later) ↦ absurd (let higher = (Ascends-behind xs (x ∷ ys) up).0 n later in omega arith)
    ]

rises : (xs : List ℕ) → Ascends xs → (i j : ℕ) → i ≤ j → j < length xs → get_or xs i 0 ≤ get_or xs j 0
rises [] up i j le lt = absurd (omega arith)
rises (x ∷ xs) up zero zero le lt = omega arith
rises (x ∷ xs) up zero (suc j) le lt = let above = up.0 (get_or xs j 0) (get_in xs j 0 (omega arith)) in omega arith
rises (x ∷ xs) up (suc i) zero le lt = absurd (omega arith)
rises (x ∷ xs) up (suc i) (suc j) le lt = rises xs up.1 i j (omega arith) (omega arith)

-- what a binary search found
pub found_at : (xs : List ℕ) (n at : ℕ) (r : Result ℕ ℕ) → IsBinarySearchResult (λ y. nat_cmp y n) xs r → Ascends xs → r ≡ Ok at → at ≡ place_in xs n
found_at xs n at r found up is = go r (searched xs n r found (rises xs up)) is
  where
    go : (r : Result ℕ ℕ)
        → MatchResult r (λ i. (i < length xs) × (get_or xs i 0 ≡ n)) (λ i. (i ≤ length xs) × ((k : ℕ) → k < i → get_or xs k 0 < n) × ((k : ℕ) → i ≤ k → k < length xs → n < get_or xs k 0))
        → r ≡ Ok at → at ≡ place_in xs n
    go (Ok i) (lt, there) e = let same : i ≡ at = cc in sym same ∙ sym (place_at xs i 0 up lt) ∙ ap (place_in xs) there
    go (Err i) h e = absurd (let clash : Bool = true in cc)

-- a member is found
pub found_some : (xs : List ℕ) (n at : ℕ) (r : Result ℕ ℕ) → IsBinarySearchResult (λ y. nat_cmp y n) xs r → Ascends xs → In n xs → r ≡ Err at → ⊥
found_some xs n at r found up i is = go r (searched xs n r found (rises xs up)) is
  where
    go : (r : Result ℕ ℕ)
        → MatchResult r (λ i. (i < length xs) × (get_or xs i 0 ≡ n)) (λ i. (i ≤ length xs) × ((k : ℕ) → k < i → get_or xs k 0 < n) × ((k : ℕ) → i ≤ k → k < length xs → n < get_or xs k 0))
        → r ≡ Err at → ⊥
    go (Ok k) h e = cc
    go (Err k) (le, before, after) e =
        let (lt, there) = place_has xs n i in
        let here = there 0 in
        elim (cases_lt (place_in xs n) k) [
          | inl lower ↦ let less = before (place_in xs n) lower in omega arith
          | inr higher ↦ let more = after (place_in xs n) (omega arith) lt in omega arith
        ]

-- a number that the list lacks
place_lacks : (xs : List ℕ) (n : ℕ) → ¬ In n xs → place_in xs n ≡ length xs
place_lacks [] n none = refl
place_lacks (x ∷ xs) n none =
    elim (cases_eq x n) [
      | inl same ↦ absurd (none (inl (sym same)))
      | inr other ↦ let later = place-later x n xs other in let rest = place_lacks xs n (λ i. none (inr i)) in omega arith
    ]

pub found_none : (xs : List ℕ) (n at : ℕ) (r : Result ℕ ℕ) → IsBinarySearchResult (λ y. nat_cmp y n) xs r → Ascends xs → r ≡ Err at → place_in xs n ≡ length xs
found_none xs n at r found up is = place_lacks xs n (λ i. found_some xs n at r found up i is)

-- a number above all
pub above_all : (xs : List ℕ) (n bound : ℕ) → All (λ m. m < bound) xs → bound ≤ n → place_in xs n ≡ length xs
above_all xs n bound small high =
    place_lacks xs n (λ i. let (lt, there) = place_has xs n i in let below : get_or xs (place_in xs n) 0 < bound = small (place_in xs n) 0 lt in let same = there 0 in absurd (omega arith))

pub place_at_most : (xs : List ℕ) (n : ℕ) → place_in xs n ≤ length xs
place_at_most [] n = omega arith
place_at_most (x ∷ xs) n =
    elim (cases_eq x n) [
      | inl same ↦ let here = place-here x n xs same in omega arith
      | inr other ↦ let later = place-later x n xs other in let rest = place_at_most xs n in omega arith
    ]
