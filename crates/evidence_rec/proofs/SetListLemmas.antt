-- Lists of sets: how many times a set is in one, and the list of all sets of groups.
use Rattle.std.proofs.Common.{◌≡◌, ◌≢◌, ℕ, zero, suc, ◌+◌, ◌<◌, ◌≤◌, Bool, true, false, ◌&&◌, List, [], ◌∷◌, ◌++◌, map, refl, sym, ◌∙◌, ap, subst, inl, inr, arith, eqb}
use Rattle.std.specs.Prelude.{nat_eq}
use Rattle.std.specs.List.{filter, range_with_len}
use Rattle.std.specs.Cmp.Lexicographic.{pointwise}
use Rattle.std.specs.List.Sorted.{IsPermutation}
use Rattle.std.proofs.lemmas.List.Sorted.{IsPermutation-refl, IsPermutation-cons, IsPermutation-middle, IsPermutation-sym, IsPermutation-trans}
use Rattle.std.proofs.lemmas.Bool.{or_cases, or_left, or_right, and_parts, and_from, false≢true, cases_Bool, eqb-true, eq-eqb, ne_eqb, eqb-false, cases_order, cond-true, cond-false}
use Rattle.gm_base.specs.Sets.{AscendsAbove, IsGroupSet, has, IsSubset, all_groups, sublists, nonempty_sublists, subsets}
use Rattle.sat_base.specs.Members.{In}
use Rattle.sat_base.proofs.Members.{In-append_left, In-append_right, In-append_cases, In-map, In-from_map}
use Rattle.gm_base.proofs.SetLemmas.{AscendsAbove-from, AscendsAbove-range}
use Rattle.gm_base.proofs.TestLemmas.{IsSubset-from_sublists}

abbrev pub one_if : Bool → ℕ
one_if true = 1
one_if false = 0

-- how many times a set is in a list of sets
abbrev pub times : List ℕ → List (List ℕ) → ℕ
times set [] = 0
times set (s ∷ ss) = one_if (pointwise nat_eq s set) + times set ss

abbrev pub IsDistinct : List (List ℕ) → Type 0
IsDistinct sets = (set : List ℕ) → times set sets ≤ 1

-- the same sets, each as many times, in whatever order
abbrev pub SameSets : List (List ℕ) → List (List ℕ) → Type 0
SameSets xs ys = (set : List ℕ) → times set xs ≡ times set ys

-- equality of sets as a test
pub same-refl : (s : List ℕ) → pointwise nat_eq s s ≡ true
same-refl [] = refl
same-refl (g ∷ gs) = and_from (eqb g g) (pointwise nat_eq gs gs) (eq-eqb g g refl) (same-refl gs)

pub same-is : (s t : List ℕ) → pointwise nat_eq s t ≡ true → s ≡ t
same-is [] [] e = refl
same-is [] (h ∷ hs) e = absurd (false≢true e)
same-is (g ∷ gs) [] e = absurd (false≢true e)
same-is (g ∷ gs) (h ∷ hs) e =
    let (first, rest) = and_parts (eqb g h) (pointwise nat_eq gs hs) e in
    ap (λ n. n ∷ gs) (eqb-true g h first) ∙ ap (λ ts. h ∷ ts) (same-is gs hs rest)

-- a set that is in a list is there at least once
pub times-In : (s : List ℕ) (xs : List (List ℕ)) → In s xs → 0 < times s xs
times-In s [] h = absurd h
times-In s (x ∷ xs) (inl e) =
    let one : one_if (pointwise nat_eq x s) ≡ 1 = ap one_if (ap (λ t. pointwise nat_eq t s) (sym e) ∙ same-refl s) in omega arith
times-In s (x ∷ xs) (inr h) = let rest = times-In s xs h in omega arith

pub In-times : (s : List ℕ) (xs : List (List ℕ)) → 0 < times s xs → In s xs
In-times s [] h = absurd (omega arith)
In-times s (x ∷ xs) h =
    elim (cases_Bool (pointwise nat_eq x s)) [
      | inl same ↦ inl (sym (same-is x s same))
      | inr other ↦ inr (In-times s xs (let none : one_if (pointwise nat_eq x s) ≡ 0 = ap one_if other in omega arith))
    ]

pub times-append : (s : List ℕ) (xs ys : List (List ℕ)) → times s (xs ++ ys) ≡ times s xs + times s ys
times-append s [] ys = omega arith
times-append s (x ∷ xs) ys = let rest = times-append s xs ys in omega arith

pub IsDistinct-push : (xs more : List (List ℕ)) (y : List ℕ) → IsDistinct xs → ¬ In y xs → more ≡ xs ++ y ∷ []
    → IsDistinct more
IsDistinct-push xs more y distinct new is s =
    let whole = ap (times s) is ∙ times-append s xs (y ∷ []) in
    let once = distinct s in
    elim (cases_Bool (pointwise nat_eq y s)) [
      | inr other ↦ let none : one_if (pointwise nat_eq y s) ≡ 0 = ap one_if other in omega arith
      | inl same ↦
          let one : one_if (pointwise nat_eq y s) ≡ 1 = ap one_if same in
          let absent : times s xs ≡ 0 = none (times s xs) (λ some. new (subst (λ t. In t xs) (sym (same-is y s same)) (In-times s xs some))) in
          omega arith
    ]
  where
    none : (n : ℕ) → (0 < n → ⊥) → n ≡ 0
    none zero f = refl
    none (suc n) f = absurd (f (omega arith))

-- the sublists of an ascending list differ
times-nil : (gs : List ℕ) → times [] (nonempty_sublists gs) ≡ 0
times-nil [] = refl
times-nil (g ∷ gs) =
    let rest = times-nil gs in
    let split = times-append [] (map (λ s. g ∷ s) (nonempty_sublists gs)) (nonempty_sublists gs) in
    let none = times-nil_map g (nonempty_sublists gs) in
    omega arith
  where
    times-nil_map : (g : ℕ) (xs : List (List ℕ)) → times [] (map (λ s. g ∷ s) xs) ≡ 0
    times-nil_map g [] = refl
    times-nil_map g (x ∷ xs) = let rest = times-nil_map g xs in omega arith

times-map_same : (g : ℕ) (s : List ℕ) (xs : List (List ℕ)) → times (g ∷ s) (map (λ t. g ∷ t) xs) ≡ times s xs
times-map_same g s [] = refl
times-map_same g s (x ∷ xs) =
    let rest = times-map_same g s xs in
    let head : one_if (eqb g g && pointwise nat_eq x s) ≡ one_if (pointwise nat_eq x s) = ap (λ b. one_if (b && pointwise nat_eq x s)) (eq-eqb g g refl) in
    omega arith

times-map_other : (g h : ℕ) (s : List ℕ) (xs : List (List ℕ)) → g ≢ h → times (h ∷ s) (map (λ t. g ∷ t) xs) ≡ 0
times-map_other g h s [] ne = refl
times-map_other g h s (x ∷ xs) ne =
    let rest = times-map_other g h s xs ne in
    let head : one_if (eqb g h && pointwise nat_eq x s) ≡ 0 = ap (λ b. one_if (b && pointwise nat_eq x s)) (ne_eqb g h ne) in
    omega arith

-- a sublist that begins with a number that is not above the bound is none
times-low : (low h : ℕ) (s gs : List ℕ) → AscendsAbove low gs → h ≤ low → times (h ∷ s) (nonempty_sublists gs) ≡ 0
times-low low h s [] ok le = refl
times-low low h s (g ∷ gs) ok le =
    let above = ok.0 in
    let other : g ≢ h = λ e. omega arith in
    let single : one_if (eqb g h && pointwise nat_eq [] s) ≡ 0 = ap (λ b. one_if (b && pointwise nat_eq [] s)) (ne_eqb g h other) in
    let split = times-append (h ∷ s) (map (λ t. g ∷ t) (nonempty_sublists gs)) (nonempty_sublists gs) in
    let first = times-map_other g h s (nonempty_sublists gs) other in
    let rest = times-low g h s gs ok.1 (omega arith) in
    omega arith

distinct-nonempty : (low : ℕ) (gs : List ℕ) → AscendsAbove low gs → IsDistinct (nonempty_sublists gs)
distinct-nonempty low [] ok s = omega arith
distinct-nonempty low (g ∷ gs) ok [] = let none = times-nil (g ∷ gs) in omega arith
distinct-nonempty low (g ∷ gs) ok (h ∷ s) =
    let split = times-append (h ∷ s) (map (λ t. g ∷ t) (nonempty_sublists gs)) (nonempty_sublists gs) in
    let rest = distinct-nonempty g gs ok.1 in
    elim (cases_Bool (eqb g h)) [
      | inr other ↦
          let apart : g ≢ h = eqb-false g h other in
          let single : one_if (eqb g h && pointwise nat_eq [] s) ≡ 0 = ap (λ b. one_if (b && pointwise nat_eq [] s)) other in
          let first = times-map_other g h s (nonempty_sublists gs) apart in
          let later = rest (h ∷ s) in
          omega arith
      | inl same ↦
          let is = eqb-true g h same in
          let single : one_if (eqb g h && pointwise nat_eq [] s) ≡ one_if (pointwise nat_eq [] s) = ap (λ b. one_if (b && pointwise nat_eq [] s)) same in
          let first = ap (λ k. times (k ∷ s) (map (λ t. g ∷ t) (nonempty_sublists gs))) (sym is) ∙ times-map_same g s (nonempty_sublists gs) in
          let later = times-low g h s gs ok.1 (omega arith) in
          let once = either s (rest s) in
          omega arith
    ]
  where
    -- the empty list is no sublist with an element
    either : (s : List ℕ) → times s (nonempty_sublists gs) ≤ 1
        → one_if (pointwise nat_eq [] s) + times s (nonempty_sublists gs) ≤ 1
    either [] le = let none = times-nil gs in omega arith
    either (k ∷ ks) le = omega arith

distinct-subsets : (groups : ℕ) → IsDistinct (subsets groups)
distinct-subsets groups [] = let none = times-nil (all_groups groups) in omega arith
distinct-subsets groups (g ∷ gs) = let once = distinct-nonempty 0 (all_groups groups) (AscendsAbove-range 0 groups) (g ∷ gs) in omega arith

times-filter : (test : List ℕ → Bool) (s : List ℕ) (xs : List (List ℕ)) → times s (filter test xs) ≤ times s xs
times-filter test s [] = omega arith
times-filter test s (x ∷ xs) =
    let rest = times-filter test s xs in
    elim (cases_Bool (test x)) [
      | inl kept ↦ subst (λ ys. times s ys ≤ times s (x ∷ xs)) (sym (cond-true (test x) (x ∷ filter test xs) (filter test xs) kept)) (omega arith)
      | inr dropped ↦ subst (λ ys. times s ys ≤ times s (x ∷ xs)) (sym (cond-false (test x) (x ∷ filter test xs) (filter test xs) dropped)) (omega arith)
    ]

pub In-filter : (test : List ℕ → Bool) (s : List ℕ) (xs : List (List ℕ)) → In s xs → test s ≡ true
    → In s (filter test xs)
In-filter test s [] h t = absurd h
In-filter test s (x ∷ xs) (inl e) t =
    subst (In s) (sym (cond-true (test x) (x ∷ filter test xs) (filter test xs) (ap test (sym e) ∙ t))) (inl e)
In-filter test s (x ∷ xs) (inr h) t =
    elim (cases_Bool (test x)) [
      | inl kept ↦ subst (In s) (sym (cond-true (test x) (x ∷ filter test xs) (filter test xs) kept)) (inr (In-filter test s xs h t))
      | inr dropped ↦ subst (In s) (sym (cond-false (test x) (x ∷ filter test xs) (filter test xs) dropped)) (In-filter test s xs h t)
    ]

pub filter-In : (test : List ℕ → Bool) (s : List ℕ) (xs : List (List ℕ)) → In s (filter test xs)
    → In s xs × (test s ≡ true)
filter-In test s [] h = absurd h
filter-In test s (x ∷ xs) h =
    elim (cases_Bool (test x)) [
      | inl kept ↦
          elim (subst (In s) (cond-true (test x) (x ∷ filter test xs) (filter test xs) kept) h) [
            | inl e ↦ (inl e, ap test e ∙ kept)
            | inr later ↦ let (i, t) = filter-In test s xs later in (inr i, t)
          ]
      | inr dropped ↦ let (i, t) = filter-In test s xs (subst (In s) (cond-false (test x) (x ∷ filter test xs) (filter test xs) dropped) h) in (inr i, t)
    ]

range-has : (from count g : ℕ) → has (range_with_len from count) g ≡ true → (from ≤ g) × (g < from + count)
range-has from zero g h = absurd (false≢true h)
range-has from (suc n) g h =
    elim (or_cases (eqb from g) (has (range_with_len (from + 1) n) g) h) [
      | inl here ↦ let same = eqb-true from g here in (omega arith, omega arith)
      | inr later ↦ let (le, lt) = range-has (from + 1) n g later in (omega arith, omega arith)
    ]

-- each set of groups is one of all
In-sublists_range : (low n : ℕ) (s : List ℕ) → AscendsAbove low s → ((g : ℕ) → has s g ≡ true → g < low + 1 + n)
    → In s (sublists (range_with_len (low + 1) n))
In-sublists_range low n [] ok within = inl refl
In-sublists_range low zero (g ∷ gs) ok within =
    let above = ok.0 in
    let below = within g (or_left (eqb g g) (has gs g) (eq-eqb g g refl)) in
    absurd (omega arith)
In-sublists_range low (suc n) (g ∷ gs) ok within =
    let above = ok.0 in
    let rest = range_with_len (low + 1 + 1) n in
    elim (cases_order g (low + 1)) [
      | inl here ↦
          let deeper : In gs (sublists rest) =
          In-sublists_range (low + 1) n gs (subst (λ k. AscendsAbove k gs) here ok.1)
          (λ h inside. let lt = within h (or_right (eqb g h) (has gs h) inside) in omega arith) in
          subst (λ k. In (k ∷ gs) (sublists ((low + 1) ∷ rest))) (sym here) (inr (cons (low + 1) gs rest deeper))
      | inr apart ↦ elim apart [
        | inl less ↦ absurd (omega arith)
        | inr more ↦
            elim (In-sublists_range (low + 1) n (g ∷ gs) (more, ok.1) (λ h inside. let lt = within h inside in omega arith)) [
              | inl none ↦ absurd (let clash : g ∷ gs ≡ [] = none in nothing g gs clash)
              | inr later ↦ inr (In-append_right (g ∷ gs) (((low + 1) ∷ []) ∷ map (λ t. (low + 1) ∷ t) (nonempty_sublists rest)) (nonempty_sublists rest) later)
            ]
      ]
    ]
  where
    nothing : (g : ℕ) (gs : List ℕ) → g ∷ gs ≡ [] → ⊥
    nothing g gs e = cc

    cons : (h : ℕ) (ts rest : List ℕ) → In ts (sublists rest) → In (h ∷ ts) (nonempty_sublists (h ∷ rest))
    cons h ts rest (inl e) = inl (ap (λ t. h ∷ t) e)
    cons h ts rest (inr i) = In-append_left (h ∷ ts) ((h ∷ []) ∷ map (λ t. h ∷ t) (nonempty_sublists rest)) (nonempty_sublists rest) (inr (In-map (λ t. h ∷ t) ts (nonempty_sublists rest) i))

pub In-subsets : (groups : ℕ) (s : List ℕ) → IsGroupSet s → IsSubset s (all_groups groups) → In s (subsets groups)
In-subsets groups s ok within = In-sublists_range 0 groups s ok (λ g inside. (range-has 1 groups g (within g inside)).1)

-- and all of them are sets of groups
ascends-sublist : (low : ℕ) (s gs : List ℕ) → AscendsAbove low gs → In s (nonempty_sublists gs) → AscendsAbove low s
ascends-sublist low s [] ok h = absurd h
ascends-sublist low s (g ∷ gs) ok h =
    elim (In-append_cases s ((g ∷ []) ∷ map (λ t. g ∷ t) (nonempty_sublists gs)) (nonempty_sublists gs) h) [
      | inr later ↦ let above = ok.0 in AscendsAbove-from low g s (omega arith) (ascends-sublist g s gs ok.1 later)
      | inl first ↦ elim first [
        | inl one ↦ subst (AscendsAbove low) (sym one) (ok.0, tt)
        | inr more ↦
            let (t, i, e) = In-from_map (λ t. g ∷ t) s (nonempty_sublists gs) more in
            subst (AscendsAbove low) (sym e) (ok.0, ascends-sublist g t gs ok.1 i)
      ]
    ]

pub subsets-In : (groups : ℕ) (s : List ℕ) → In s (subsets groups) → IsGroupSet s × IsSubset s (all_groups groups)
subsets-In groups s h = (ascends h, IsSubset-from_sublists s (all_groups groups) h)
  where
    ascends : In s (sublists (all_groups groups)) → IsGroupSet s
    ascends (inl e) = subst IsGroupSet (sym e) tt
    ascends (inr later) = ascends-sublist 0 s (all_groups groups) (AscendsAbove-range 0 groups) later

-- what is kept of distinct sets is distinct
pub distinct-filter : (test : List ℕ → Bool) (xs : List (List ℕ)) → IsDistinct xs → IsDistinct (filter test xs)
distinct-filter test xs distinct s = let all = distinct s in let kept = times-filter test s xs in omega arith

pub distinct-filter_subsets : (test : List ℕ → Bool) (groups : ℕ) → IsDistinct (filter test (subsets groups))
distinct-filter_subsets test groups = distinct-filter test (subsets groups) (distinct-subsets groups)

-- distinct sets that are in both lists are there as many times
pub SameSets-from_distinct : (xs ys : List (List ℕ)) → IsDistinct xs → IsDistinct ys
    → ((s : List ℕ) → In s xs → In s ys) → ((s : List ℕ) → In s ys → In s xs) → SameSets xs ys
SameSets-from_distinct xs ys p q there back s = by (times s xs) (times s ys) refl refl
  where
    by : (m n : ℕ) → times s xs ≡ m → times s ys ≡ n → times s xs ≡ times s ys
    by zero zero a b = a ∙ sym b
    by zero (suc n) a b = absurd (let some = times-In s xs (back s (In-times s ys (omega (arith, b)))) in omega (arith, a))
    by (suc m) zero a b = absurd (let some = times-In s ys (there s (In-times s xs (omega (arith, a)))) in omega (arith, b))
    by (suc m) (suc n) a b = let low = p s in let high = q s in omega (arith, a, b)

-- a test that all pass drops nothing
pub filter-all : (test : List ℕ → Bool) (xs : List (List ℕ)) → ((s : List ℕ) → In s xs → test s ≡ true)
    → filter test xs ≡ xs
filter-all test [] passes = refl
filter-all test (x ∷ xs) passes =
    cond-true (test x) (x ∷ filter test xs) (filter test xs) (passes x (inl refl))
    ∙ ap (λ ys. x ∷ ys) (filter-all test xs (λ s i. passes s (inr i)))

-- where a set stands in a list: what is before it and what is behind
split_at : (x : List ℕ) (ys : List (List ℕ)) → In x ys
    → (before : List (List ℕ)) × (after : List (List ℕ)) × (ys ≡ before ++ x ∷ after)
split_at x [] i = absurd i
split_at x (y ∷ ys) (inl e) = ([], ys, ap (λ z. z ∷ ys) (sym e))
split_at x (y ∷ ys) (inr i) = let (before, after, is) = split_at x ys i in (y ∷ before, after, ap (λ zs. y ∷ zs) is)

-- the same sets, each as many times, are the same list in some order
pub IsPermutation-same : (xs ys : List (List ℕ)) → SameSets xs ys → IsPermutation xs ys
IsPermutation-same [] [] same = IsPermutation-refl []
IsPermutation-same [] (y ∷ ys) same =
    absurd (let here = times-In y (y ∷ ys) (inl refl) in let none : times y [] ≡ times y (y ∷ ys) = same y in omega arith)
IsPermutation-same (x ∷ xs) ys same =
    let here = times-In x (x ∷ xs) (inl refl) in
    let there : times x (x ∷ xs) ≡ times x ys = same x in
    let (before, after, is) = split_at x ys (In-times x ys (omega arith)) in
    let front : IsPermutation (x ∷ (before ++ after)) (before ++ x ∷ after) =
    IsPermutation-sym (before ++ x ∷ after) (x ∷ (before ++ after)) (IsPermutation-middle before x after) in
    subst (IsPermutation (x ∷ xs)) (sym is)
    (IsPermutation-trans (x ∷ xs) (x ∷ (before ++ after)) (before ++ x ∷ after)
    (IsPermutation-cons x xs (before ++ after) (IsPermutation-same xs (before ++ after) (rest before after is))) front)
  where
    rest : (before after : List (List ℕ)) → ys ≡ before ++ x ∷ after → SameSets xs (before ++ after)
    rest before after is s =
        let all : times s (x ∷ xs) ≡ times s ys = same s in
        let whole = ap (times s) is ∙ times-append s before (x ∷ after) in
        let parts = times-append s before after in
        omega arith
