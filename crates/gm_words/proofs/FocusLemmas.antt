-- The groups in focus: the numbers that are read of a LIST, and the set of them.
use Rattle.std.proofs.Common.{◌≡◌, ℕ, zero, suc, ◌+◌, ◌<◌, ◌≤◌, Bool, true, false, ◌&&◌, ◌||◌, List, [], ◌∷◌, ◌++◌, length, map, take, get_or, drop, append-nil, refl, sym, ◌∙◌, ap, subst, inl, inr, arith, eqb, ltb, nat_cmp, Option, Some, None}
use Rattle.std.specs.Prelude.{All, Contains, option_map}
use Rattle.std.specs.Borrow.{Bor}
use Rattle.std.specs.List.{AllPairs, dedup, filter}
use Rattle.std.specs.List.Sorted.{IsPermutation, IsSorted}
use Rattle.std.proofs.lemmas.Bool.{or_cases, false≢true, eqb-true, eq-eqb, ne_eqb, lt-ltb, le-ltb, cases_order}
use Rattle.std.proofs.lemmas.List.{drop_more, drop_all, get_or-map, length-map, take-append-drop, take_more}
use Rattle.std.proofs.lemmas.List.Folds.{list_any_at, list_any-append}
use Rattle.std.proofs.lemmas.List.Filters.{All-dedup}
use Rattle.std.proofs.lemmas.List.Kept.{AllPairs-from_increasing, Contains-dedup_nat, Contains-from_dedup}
use Rattle.std.proofs.lemmas.List.Sorted.{All-permutation, list_any-IsPermutation}
use Rattle.std.proofs.lemmas.Map.Keys.{IsStrictlyIncreasing-dedup}
use Rattle.clap.specs.Walk.{Text}
use Rattle.gm_base.specs.Sets.{AscendsAbove, IsGroupSet, IsSubset, has, with_group}
use Rattle.gm_base.proofs.SetLemmas.{AscendsAbove-front, AscendsAbove-same, AscendsAbove-with, has-filter}
use Rattle.gm_words.specs.Reading.{group_rule, in_front, number_by, numbers_in, set_of}

-- ---- the numbers

-- what these references point at
abbrev pub texts_of : List (Bor Text) → List Text
texts_of pieces = map (λ piece. piece.now) pieces

-- the numbers of the texts before `at` are read, and none of them is 0
pub record HasRead (texts : List Text) (at : ℕ) (numbers : List ℕ) : Type 0 where
  pub read : numbers_in texts ≡ option_map (λ rest. numbers ++ rest) (numbers_in (drop at texts))
  pub not_background : All (λ g. 0 < g) numbers

nothing_before : (read : Option (List ℕ)) → read ≡ option_map (λ rest. [] ++ rest) read
nothing_before None = refl
nothing_before (Some rest) = refl

pub HasRead-start : (texts : List Text) (numbers : List ℕ) → numbers ≡ [] → HasRead texts 0 numbers
HasRead-start texts numbers none =
    subst (HasRead texts 0) (sym none) (record { read = nothing_before (numbers_in texts); not_background = λ k d lt. absurd (omega arith) })

-- what is read at a place
at_place : (pieces : List (Bor Text)) (at : ℕ) (d : Bor Text) → at < length pieces
    → numbers_in (drop at (texts_of pieces)) ≡ in_front (number_by group_rule (get_or pieces at d).now) (numbers_in (drop (at + 1) (texts_of pieces)))
at_place pieces at d lt =
    let within : at < length (texts_of pieces) = let long = length-map pieces (λ (piece : Bor Text). piece.now) in omega arith in
    ap numbers_in
    (drop_more (texts_of pieces) at d.now within
    ∙ ap (λ t. t ∷ drop (at + 1) (texts_of pieces)) (get_or-map (λ (piece : Bor Text). piece.now) pieces at d d.now lt))

one_more : (numbers : List ℕ) (number : ℕ) (read : Option (List ℕ))
    → option_map (λ rest. numbers ++ rest) (in_front (Some number) read) ≡ option_map (λ rest. (numbers ++ number ∷ []) ++ rest) read
one_more numbers number None = refl
one_more numbers number (Some rest) = ap Some (assoc numbers)
  where
    assoc : (xs : List ℕ) → xs ++ (number ∷ rest) ≡ (xs ++ number ∷ []) ++ rest
    assoc [] = refl
    assoc (x ∷ xs) = ap (λ ys. x ∷ ys) (assoc xs)

All-push : (xs : List ℕ) (x : ℕ) → All (λ g. 0 < g) xs → 0 < x → All (λ g. 0 < g) (xs ++ x ∷ [])
All-push [] x all some zero d lt = some
All-push [] x all some (suc k) d lt = absurd (omega arith)
All-push (y ∷ ys) x all some zero d lt = all zero d (omega arith)
All-push (y ∷ ys) x all some (suc k) d lt = All-push ys x (λ j e less. all (suc j) e (omega arith)) some k d (omega arith)

-- one more is read
pub HasRead-more : (pieces : List (Bor Text)) (at : ℕ) (d : Bor Text) (read : Option ℕ) (number : ℕ) (old new : List ℕ) → HasRead (texts_of pieces) at old
    → at < length pieces → read ≡ number_by group_rule (get_or pieces at d).now → read ≡ Some number → 0 < number → new ≡ old ++ number ∷ []
    → HasRead (texts_of pieces) (at + 1) new
HasRead-more pieces at d read number old new h lt says is some pushed =
    let rest = numbers_in (drop (at + 1) (texts_of pieces)) in
    subst (HasRead (texts_of pieces) (at + 1)) (sym pushed)
    (record {
      read =
          h.read ∙ ap (option_map (λ ns. old ++ ns)) (at_place pieces at d lt ∙ ap (λ n. in_front n rest) (sym says ∙ is)) ∙ one_more old number rest;
      not_background = All-push old number h.not_background some;
    })

-- a piece says no number
pub HasRead-refused : (pieces : List (Bor Text)) (at : ℕ) (d : Bor Text) (read : Option ℕ) (old : List ℕ) → HasRead (texts_of pieces) at old
    → at < length pieces → read ≡ number_by group_rule (get_or pieces at d).now → read ≡ None → None ≡ numbers_in (texts_of pieces)
HasRead-refused pieces at d read old h lt says none =
    sym (
    h.read
    ∙ ap (option_map (λ ns. old ++ ns)) (at_place pieces at d lt ∙ ap (λ n. in_front n (numbers_in (drop (at + 1) (texts_of pieces)))) (sym says ∙ none)))

-- all are read
pub HasRead-end : (texts : List Text) (at : ℕ) (numbers : List ℕ) → HasRead texts at numbers → length texts ≤ at → Some numbers ≡ numbers_in texts
HasRead-end texts at numbers h past =
    sym (h.read ∙ ap (λ ts. option_map (λ rest. numbers ++ rest) (numbers_in ts)) (drop_all at texts past) ∙ ap Some (append-nil numbers))

-- ---- the set

ascends-pairs : (low : ℕ) (xs : List ℕ) → AllPairs (λ x y. x < y) xs → All (λ g. low < g) xs → AscendsAbove low xs
ascends-pairs low [] up above = tt
ascends-pairs low (x ∷ xs) up above = (
  above 0 0 (omega arith),
  ascends-pairs x xs (λ i j d lt within. up (suc i) (suc j) d (omega arith) (omega arith)) (λ k d lt. up 0 (suc k) d (omega arith) (omega arith)),
)

has-Contains : (xs : List ℕ) (g : ℕ) → Contains xs g → has xs g ≡ true
has-Contains xs g (k, lt, is) = list_any_at (λ h. eqb h g) xs k g lt (eq-eqb (get_or xs k g) g is)

Contains-has : (xs : List ℕ) (g : ℕ) → has xs g ≡ true → Contains xs g
Contains-has [] g h = absurd (false≢true h)
Contains-has (x ∷ xs) g h =
    elim (or_cases (eqb x g) (has xs g) h) [
      | inl here ↦ (0, omega arith, eqb-true x g here)
      | inr later ↦ let (k, lt, is) = Contains-has xs g later in (suc k, omega arith, is)
    ]

or_none : (b : Bool) → (b || false) ≡ b
or_none true = refl
or_none false = refl

-- a set with one group more has that group and those that it had
has-with : (set : List ℕ) (n g : ℕ) → has (with_group set n) g ≡ (eqb n g || has set g)
has-with set n g =
    list_any-append (λ h. eqb h g) (filter (λ h. ltb h n) set) (n ∷ filter (λ h. ltb n h) set)
    ∙ ap (λ b. b || (eqb n g || has (filter (λ h. ltb n h) set) g)) (has-filter (λ h. ltb h n) set g)
    ∙ ap (λ b. (ltb g n && has set g) || (eqb n g || b)) (has-filter (λ h. ltb n h) set g)
    ∙ by (has set g)
  where
    by : (b : Bool) → ((ltb g n && b) || (eqb n g || (ltb n g && b))) ≡ (eqb n g || b)
    by b =
        elim (cases_order g n) [
          | inl same ↦
              let is : eqb n g ≡ true = eq-eqb n g (sym same) in
              let low : ltb g n ≡ false = le-ltb g n (omega arith) in
              ap (λ c. (c && b) || (eqb n g || (ltb n g && b))) low ∙ ap (λ c. c || (ltb n g && b)) is ∙ sym (ap (λ c. c || b) is)
          | inr apart ↦ elim apart [
            | inl less ↦
                let other : eqb n g ≡ false = ne_eqb n g (λ e. absurd (omega arith)) in
                let low : ltb g n ≡ true = lt-ltb g n less in
                let high : ltb n g ≡ false = le-ltb n g (omega arith) in
                ap (λ c. (c && b) || (eqb n g || (ltb n g && b))) low ∙ ap (λ c. b || (c || (ltb n g && b))) other
                ∙ ap (λ c. b || (c && b)) high ∙ or_none b ∙ sym (ap (λ c. c || b) other)
            | inr more ↦
                let other : eqb n g ≡ false = ne_eqb n g (λ e. absurd (omega arith)) in
                let low : ltb g n ≡ false = le-ltb g n (omega arith) in
                let high : ltb n g ≡ true = lt-ltb n g more in
                ap (λ c. (c && b) || (eqb n g || (ltb n g && b))) low ∙ ap (λ c. c || (ltb n g && b)) other
                ∙ ap (λ c. c && b) high ∙ sym (ap (λ c. c || b) other)
          ]
        ]

has-set_of : (numbers : List ℕ) (g : ℕ) → has (set_of numbers) g ≡ has numbers g
has-set_of [] g = refl
has-set_of (n ∷ ns) g = has-with (set_of ns) n g ∙ ap (λ b. eqb n g || b) (has-set_of ns g)

IsGroupSet-set_of : (numbers : List ℕ) → All (λ g. 0 < g) numbers → IsGroupSet (set_of numbers)
IsGroupSet-set_of [] all = tt
IsGroupSet-set_of (n ∷ ns) all =
    AscendsAbove-with 0 n (set_of ns) (all 0 0 (omega arith)) (IsGroupSet-set_of ns (λ k d lt. all (suc k) d (omega arith)))

-- the front of a set is one
pub IsGroupSet-front : (xs front : List ℕ) (i : ℕ) → IsGroupSet xs → front ≡ take i xs → i < length xs → IsGroupSet (front ++ get_or xs i 0 ∷ [])
IsGroupSet-front xs front i ok is lt =
    subst IsGroupSet (take_more xs i 0 lt ∙ sym (ap (λ s. s ++ get_or xs i 0 ∷ []) is))
    (AscendsAbove-front 0 (take (i + 1) xs) (drop (i + 1) xs) (subst IsGroupSet (sym (take-append-drop (i + 1) xs)) ok))

-- what a sort and the dropping of repeats leave ascends
pub IsGroupSet-sorted : (numbers sorted : List ℕ) → All (λ g. 0 < g) numbers → IsPermutation numbers sorted → IsSorted nat_cmp sorted
    → IsGroupSet (dedup eqb sorted)
IsGroupSet-sorted numbers sorted all moved up =
    ascends-pairs 0 (dedup eqb sorted) (AllPairs-from_increasing (dedup eqb sorted) (IsStrictlyIncreasing-dedup sorted up))
    (All-dedup eqb (λ g. 0 < g) sorted (All-permutation (λ g. 0 < g) numbers sorted moved all))

-- and has the same numbers
pub set_of-sorted : (numbers sorted : List ℕ) → All (λ g. 0 < g) numbers → IsPermutation numbers sorted → IsSorted nat_cmp sorted
    → dedup eqb sorted ≡ set_of numbers
set_of-sorted numbers sorted all moved up =
    AscendsAbove-same 0 (dedup eqb sorted) (set_of numbers) (IsGroupSet-sorted numbers sorted all moved up) (IsGroupSet-set_of numbers all) there back
  where
    same : (g : ℕ) → has numbers g ≡ has sorted g
    same g = list_any-IsPermutation (λ h. eqb h g) numbers sorted moved

    there : IsSubset (dedup eqb sorted) (set_of numbers)
    there g i =
        has-set_of numbers g ∙ same g
        ∙ has-Contains sorted g (Contains-from_dedup eqb sorted g (Contains-has (dedup eqb sorted) g i))

    back : IsSubset (set_of numbers) (dedup eqb sorted)
    back g i =
        has-Contains (dedup eqb sorted) g
        (Contains-dedup_nat sorted g (Contains-has sorted g (sym (same g) ∙ sym (has-set_of numbers g) ∙ i)))
