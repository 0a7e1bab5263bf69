-- Lemmas on sets of groups.
use Rattle.std.proofs.Common.{◌≡◌, ◌≢◌, ℕ, zero, suc, ◌+◌, ◌-◌, ◌<◌, ◌≤◌, Bool, true, false, not, ◌&&◌, ◌||◌, cond, take, drop, get_or, append-nil, List, [], ◌∷◌, ◌++◌, length, refl, sym, ◌∙◌, ap, subst, inl, inr, arith, eqb, ltb}
use Rattle.std.specs.List.{list_all, filter, range_with_len}
use Rattle.std.proofs.lemmas.List.Elements.{filter-append}
use Rattle.std.proofs.lemmas.Bool.{ltb-true, ltb-false, le-ltb, cond_both, cond-true, cond-false, or_cases, or_left, or_right, and_parts, and_from, not-true, false≢true, false_from_ne_true, true_from_ne_false, eqb-true, eq-eqb, ne_eqb, cases_Bool, cases_eq, or_from, cases_lt}
use Rattle.std.proofs.lemmas.List.{take_all, drop_more, drop_all}
use Rattle.std.proofs.lemmas.List.Folds.{list_any_at}
use Rattle.std.proofs.lemmas.List.Sorted.{searched}
use Rattle.std.specs.List.Sorted.{IsBinarySearchResult}
use Rattle.std.specs.Ordering.{nat_cmp}
use Rattle.std.specs.Prelude.{Result, Ok, Err, is_ok, MatchResult, Some, slice_get}
use Rattle.std.proofs.lemmas.Option.{get_or_from_slice_get}
use Rattle.std.proofs.lemmas.Map.Views.{any-filter_same}
use Rattle.gm_base.specs.Sets.{AscendsAbove, IsGroupSet, has, IsSubset, without, with_group, all_groups, complement}
use Rattle.sat_base.proofs.Members.{all_at, any_from}

pub AscendsAbove-from : (low bound : ℕ) (gs : List ℕ) → low ≤ bound → AscendsAbove bound gs → AscendsAbove low gs
AscendsAbove-from low bound [] le h = tt
AscendsAbove-from low bound (g ∷ gs) le h = let below = h.0 in (omega arith, h.1)

pub AscendsAbove-filter : (p : ℕ → Bool) (low : ℕ) (gs : List ℕ) → AscendsAbove low gs → AscendsAbove low (filter p gs)
AscendsAbove-filter p low [] h = tt
AscendsAbove-filter p low (g ∷ gs) h =
    let rest : AscendsAbove g (filter p gs) = AscendsAbove-filter p g gs h.1 in
    elim (p g) as (λ b. AscendsAbove low (cond b (g ∷ filter p gs) (filter p gs))) [
      | true ↦ (h.0, rest)
      | false ↦ let below = h.0 in AscendsAbove-from low g (filter p gs) (omega arith) rest
    ]

-- membership in a filtered set
pub has-filter : (p : ℕ → Bool) (gs : List ℕ) (g : ℕ) → has (filter p gs) g ≡ (p g && has gs g)
has-filter p gs g = any-filter_same (λ h. eqb h g) p (p g) (λ k e. ap p (eqb-true k g e)) gs

pub has-without : (set : List ℕ) (g h : ℕ) → has (without set g) h ≡ (not (eqb h g) && has set h)
has-without set g h = has-filter (λ k. not (eqb k g)) set h

pub has-complement : (groups : ℕ) (set : List ℕ) (g : ℕ) → has (complement groups set) g ≡ (not (has set g) && has (all_groups groups) g)
has-complement groups set g = has-filter (λ k. not (has set k)) (all_groups groups) g

pub has-complement-parts : (groups : ℕ) (set : List ℕ) (g : ℕ) → has (complement groups set) g ≡ true
    → (has set g ≡ false) × (has (all_groups groups) g ≡ true)
has-complement-parts groups set g h =
    let parts = and_parts (not (has set g)) (has (all_groups groups) g) (sym (has-complement groups set g) ∙ h) in
    (not-true (has set g) parts.0, parts.1)

pub has-complement-from : (groups : ℕ) (set : List ℕ) (g : ℕ) → has (all_groups groups) g ≡ true → has set g ≡ false
    → has (complement groups set) g ≡ true
has-complement-from groups set g all out =
    has-complement groups set g ∙ and_from (not (has set g)) (has (all_groups groups) g) (ap not out) all

-- the complement of the complement has the same groups
pub IsSubset-complement_twice : (groups : ℕ) (set : List ℕ) → IsSubset set (all_groups groups)
    → IsSubset set (complement groups (complement groups set))
IsSubset-complement_twice groups set within g i =
    has-complement-from groups (complement groups set) g (within g i)
    (false_from_ne_true (has (complement groups set) g) (λ out. false≢true (sym (has-complement-parts groups set g out).0 ∙ i)))

pub complement_twice-IsSubset : (groups : ℕ) (set : List ℕ) → IsSubset (complement groups (complement groups set)) set
complement_twice-IsSubset groups set g i =
    let parts = has-complement-parts groups (complement groups set) g i in
    true_from_ne_false (has set g) (λ out. false≢true (sym parts.0 ∙ has-complement-from groups set g parts.1 out))

pub IsSubset-from_all : (small large : List ℕ) → list_all (has large) small ≡ true → IsSubset small large
IsSubset-from_all small large a g h =
    let (x, i, e) = any_from (λ k. eqb k g) small h in
    sym (ap (has large) (eqb-true x g e)) ∙ all_at (has large) small x a i

-- what a scan of the whole first set shows
pub IsSubset-from_scan : (small large items : List ℕ) (i : ℕ) → items ≡ small → length items ≤ i → list_all (has large) (take i items) ≡ true → IsSubset small large
IsSubset-from_scan small large items i same past scanned =
    IsSubset-from_all small large (sym (ap (list_all (has large)) (take_all i items past ∙ same)) ∙ scanned)

pub IsGroupSet-without : (set gs items : List ℕ) (g i : ℕ) → items ≡ set → IsGroupSet set → gs ≡ without (take i items) g → length items ≤ i → IsGroupSet gs
IsGroupSet-without set gs items g i same ok is past =
    let full : gs ≡ without set g = is ∙ ap (λ xs. without xs g) (take_all i items past ∙ same) in
    subst IsGroupSet (sym full) (AscendsAbove-filter (λ h. not (eqb h g)) 0 set ok)

-- the groups above g
pub AscendsAbove-above : (low g : ℕ) (gs : List ℕ) → AscendsAbove low gs → AscendsAbove g (filter (λ h. ltb g h) gs)
AscendsAbove-above low g [] h = tt
AscendsAbove-above low g (x ∷ xs) h =
    cond_both (ltb g x) (x ∷ filter (λ h. ltb g h) xs) (filter (λ h. ltb g h) xs) (AscendsAbove g)
    (λ e. (ltb-true g x e, AscendsAbove-filter (λ h. ltb g h) x xs h.1))
    (λ e. AscendsAbove-above x g xs h.1)

none_below : (g low : ℕ) (gs : List ℕ) → g ≤ low → AscendsAbove low gs → filter (λ h. ltb h g) gs ≡ []
none_below g low [] le h = refl
none_below g low (x ∷ xs) le h =
    let above = h.0 in
    let not_below : ltb x g ≡ false = le-ltb x g (omega arith) in
    cond-false (ltb x g) (x ∷ filter (λ h. ltb h g) xs) (filter (λ h. ltb h g) xs) not_below ∙ none_below g x xs (omega arith) h.1

pub AscendsAbove-with : (low g : ℕ) (gs : List ℕ) → low < g → AscendsAbove low gs → AscendsAbove low (with_group gs g)
AscendsAbove-with low g [] lt h = (lt, tt)
AscendsAbove-with low g (x ∷ xs) lt h =
    elim (cases_Bool (ltb x g)) [
      | inl below ↦
          let x_below : x < g = ltb-true x g below in
          let none : ltb g x ≡ false = le-ltb g x (omega arith) in
          let front = cond-true (ltb x g) (x ∷ filter (λ h. ltb h g) xs) (filter (λ h. ltb h g) xs) below in
          let back = cond-false (ltb g x) (x ∷ filter (λ h. ltb g h) xs) (filter (λ h. ltb g h) xs) none in
          rw (front, back) (h.0, AscendsAbove-with x g xs x_below h.1)
      | inr past ↦
          let x_past : g ≤ x = ltb-false x g past in
          let front = cond-false (ltb x g) (x ∷ filter (λ h. ltb h g) xs) (filter (λ h. ltb h g) xs) past ∙ none_below g x xs x_past h.1 in
          rw front (lt, AscendsAbove-above low g (x ∷ xs) h)
    ]

pub AscendsAbove-range : (low n : ℕ) → AscendsAbove low (range_with_len (low + 1) n)
AscendsAbove-range low zero = tt
AscendsAbove-range low (suc n) = (omega arith, AscendsAbove-range (low + 1) n)

pub range_with_len_more : (a n : ℕ) → range_with_len a (suc n) ≡ range_with_len a n ++ (a + n) ∷ []
range_with_len_more a zero = let e : a + 0 ≡ a = omega arith in rw e refl
range_with_len_more a (suc n) =
    let e : (a + 1) + n ≡ a + suc n = omega arith in
    ap (λ xs. a ∷ xs) (range_with_len_more (a + 1) n ∙ ap (λ k. range_with_len (a + 1) n ++ k ∷ []) e)

pub complement_more : (i : ℕ) (set : List ℕ) → complement (i + 1) set ≡ complement i set ++ cond (not (has set (i + 1))) ((i + 1) ∷ []) []
complement_more i set =
    let e : 1 + i ≡ i + 1 = omega arith in
    let up : i + 1 ≡ suc i = omega arith in
    ap (λ n. complement n set) up ∙
    ap (filter (λ g. not (has set g))) (range_with_len_more 1 i ∙ ap (λ k. range_with_len 1 i ++ k ∷ []) e)
    ∙ filter-append (λ g. not (has set g)) (range_with_len 1 i) ((i + 1) ∷ [])

pub IsGroupSet-complement : (groups : ℕ) (set gs : List ℕ) → gs ≡ complement groups set → IsGroupSet gs
IsGroupSet-complement groups set gs e =
    subst IsGroupSet (sym e) (AscendsAbove-filter (λ g. not (has set g)) 0 (range_with_len 1 groups) (AscendsAbove-range 0 groups))

-- what the two scans of `with` leave
pub with_group-scan : (set gs items : List ℕ) (g i : ℕ) → items ≡ set
    → gs ≡ filter (λ h. ltb h g) set ++ (g ∷ filter (λ h. ltb g h) (take i items)) → length items ≤ i → gs ≡ with_group set g
with_group-scan set gs items g i same is past =
    is ∙ ap (λ xs. filter (λ h. ltb h g) set ++ (g ∷ filter (λ h. ltb g h) xs)) (take_all i items past ∙ same)

pub IsGroupSet-with : (set gs : List ℕ) (g : ℕ) → IsGroupSet set → 0 < g → gs ≡ with_group set g → IsGroupSet gs
IsGroupSet-with set gs g ok pos is = subst IsGroupSet (sym is) (AscendsAbove-with 0 g set pos ok)

-- the front of an ascending list ascends
pub AscendsAbove-front : (low : ℕ) (xs ys : List ℕ) → AscendsAbove low (xs ++ ys) → AscendsAbove low xs
AscendsAbove-front low [] ys h = tt
AscendsAbove-front low (x ∷ xs) ys h = (h.0, AscendsAbove-front x xs ys h.1)

-- each element is above the bound
pub AscendsAbove-at : (low : ℕ) (xs : List ℕ) (i : ℕ) → AscendsAbove low xs → i < length xs → low < get_or xs i 0
AscendsAbove-at low [] i h lt = absurd (omega arith)
AscendsAbove-at low (x ∷ xs) zero h lt = h.0
AscendsAbove-at low (x ∷ xs) (suc i) h lt =
    let later = AscendsAbove-at x xs i h.1 (omega arith) in
    let first = h.0 in omega arith

-- no element is below one that stands before it
pub AscendsAbove-rise : (low : ℕ) (xs : List ℕ) (i j : ℕ) → AscendsAbove low xs → i ≤ j → j < length xs → get_or xs i 0 ≤ get_or xs j 0
AscendsAbove-rise low [] i j h le lt = absurd (omega arith)
AscendsAbove-rise low (x ∷ xs) zero zero h le lt = omega arith
AscendsAbove-rise low (x ∷ xs) zero (suc j) h le lt = let later = AscendsAbove-at x xs j h.1 (omega arith) in omega arith
AscendsAbove-rise low (x ∷ xs) (suc i) zero h le lt = absurd (omega arith)
AscendsAbove-rise low (x ∷ xs) (suc i) (suc j) h le lt = AscendsAbove-rise x xs i j h.1 (omega arith) (omega arith)

-- a group that stands at no place is not in the list
absent : (xs : List ℕ) (g : ℕ) → ((k : ℕ) → k < length xs → get_or xs k 0 ≢ g) → has xs g ≡ false
absent [] g none = refl
absent (x ∷ xs) g none =
    or_from (eqb x g) (has xs g) (ne_eqb x g (none 0 (omega arith))) (absent xs g (λ k lt. none (suc k) (omega arith)))

-- what a search by halving finds in an ascending list
pub is_ok-searched : (low : ℕ) (xs : List ℕ) (g : ℕ) (r : Result ℕ ℕ) → AscendsAbove low xs → IsBinarySearchResult (λ y. nat_cmp y g) xs r → is_ok r ≡ has xs g
is_ok-searched low xs g r ok found = by r (searched xs g r found (λ i j le lt. AscendsAbove-rise low xs i j ok le lt))
  where
    by : (r : Result ℕ ℕ) → MatchResult r (λ i. (i < length xs) × (get_or xs i 0 ≡ g)) (λ i. (i ≤ length xs) × ((k : ℕ) → k < i → get_or xs k 0 < g) × ((k : ℕ) → i ≤ k → k < length xs → g < get_or xs k 0)) → is_ok r ≡ has xs g
    by (Ok i) h = sym (list_any_at (λ h. eqb h g) xs i 0 h.0 (eq-eqb (get_or xs i 0) g h.1))
    by (Err i) h =
        sym (absent xs g (λ k lt e. elim (cases_lt k i) [ inl below ↦ (let less = h.1 k below in omega arith) | inr past ↦ (let more = h.2 k past lt in omega arith) ]))

-- what ascends above a bound does not have it
pub not_has-bound : (low g : ℕ) (gs : List ℕ) → g ≤ low → AscendsAbove low gs → has gs g ≡ false
not_has-bound low g [] le h = refl
not_has-bound low g (x ∷ xs) le h =
    let above = h.0 in
    or_from (eqb x g) (has xs g) (ne_eqb x g (λ e. absurd (omega arith))) (not_has-bound x g xs (omega arith) h.1)

-- each group of what ascends above a bound is above it
pub AscendsAbove-has : (low : ℕ) (set : List ℕ) (g : ℕ) → AscendsAbove low set → has set g ≡ true → low < g
AscendsAbove-has low set g h i =
    elim (cases_lt low g) [ inl above ↦ above | inr le ↦ absurd (false≢true (sym (not_has-bound low g set le h) ∙ i)) ]

-- a list has its first group
pub has-head : (g : ℕ) (gs : List ℕ) → has (g ∷ gs) g ≡ true
has-head g gs = or_left (eqb g g) (has gs g) (eq-eqb g g refl)

-- no group of an ascending list is above its last one
pub at_most_last : (low : ℕ) (xs : List ℕ) (i g d : ℕ) → AscendsAbove low xs → i + 1 ≡ length xs → has xs g ≡ true → g ≤ get_or xs i d
at_most_last low [] i g d ok end h = absurd (false≢true h)
at_most_last low (x ∷ []) zero g d ok end h =
    elim (or_cases (eqb x g) false h) [
      | inl here ↦ let same = eqb-true x g here in omega arith
      | inr later ↦ absurd (false≢true later)
    ]
at_most_last low (x ∷ []) (suc i) g d ok end h = absurd (omega arith)
at_most_last low (x ∷ y ∷ ys) zero g d ok end h = absurd (omega arith)
at_most_last low (x ∷ y ∷ ys) (suc i) g d ok end h =
    elim (or_cases (eqb x g) (has (y ∷ ys) g) h) [
      | inl here ↦
          let same = eqb-true x g here in
          let above = ok.1.0 in
          let most = at_most_last x (y ∷ ys) i y d ok.1 (omega arith) (has-head y ys) in
          omega arith
      | inr later ↦ at_most_last x (y ∷ ys) i g d ok.1 (omega arith) later
    ]

-- a subset of an ascending list, without their common head
IsSubset-tail : (x y : ℕ) (xs ys : List ℕ) → x ≡ y → AscendsAbove x xs → IsSubset (x ∷ xs) (y ∷ ys) → IsSubset xs ys
IsSubset-tail x y xs ys same ok sub g i =
    elim (or_cases (eqb y g) (has ys g) (sub g (or_right (eqb x g) (has xs g) i))) [
      | inl here ↦ let e = eqb-true y g here in let above = AscendsAbove-has x xs g ok i in absurd (omega arith)
      | inr later ↦ later
    ]

-- the head of an ascending list is not above a group of the list
head-least : (low x g : ℕ) (xs : List ℕ) → AscendsAbove low (x ∷ xs) → has (x ∷ xs) g ≡ true → x ≤ g
head-least low x g xs ok i =
    elim (or_cases (eqb x g) (has xs g) i) [
      | inl here ↦ let e = eqb-true x g here in omega arith
      | inr later ↦ let above = AscendsAbove-has x xs g ok.1 later in omega arith
    ]

-- two ascending lists with the same groups are one
pub AscendsAbove-same : (low : ℕ) (xs ys : List ℕ) → AscendsAbove low xs → AscendsAbove low ys
    → IsSubset xs ys → IsSubset ys xs → xs ≡ ys
AscendsAbove-same low [] [] p q there back = refl
AscendsAbove-same low [] (y ∷ ys) p q there back = absurd (false≢true (back y (has-head y ys)))
AscendsAbove-same low (x ∷ xs) [] p q there back = absurd (false≢true (there x (has-head x xs)))
AscendsAbove-same low (x ∷ xs) (y ∷ ys) p q there back =
    let at_least = head-least low x y xs p (back y (has-head y ys)) in
    let at_most = head-least low y x ys q (there x (has-head x xs)) in
    let same : x ≡ y = omega arith in
    let rest : xs ≡ ys =
    AscendsAbove-same x xs ys p.1 (subst (λ n. AscendsAbove n ys) (sym same) q.1) (IsSubset-tail x y xs ys same p.1 there)
    (IsSubset-tail y x ys xs (sym same) q.1 back) in
    cc

has-range : (a n g : ℕ) → a ≤ g → g < a + n → has (range_with_len a n) g ≡ true
has-range a zero g low high = absurd (omega arith)
has-range a (suc n) g low high =
    elim (cases_eq a g) [
      | inl same ↦ or_left (eqb a g) (has (range_with_len (a + 1) n) g) (eq-eqb a g same)
      | inr other ↦
          or_right (eqb a g) (has (range_with_len (a + 1) n) g) (has-range (a + 1) n g (omega arith) (omega arith))
    ]

range-has : (a n g : ℕ) → has (range_with_len a n) g ≡ true → (a ≤ g) × (g < a + n)
range-has a zero g h = absurd (false≢true h)
range-has a (suc n) g h =
    elim (or_cases (eqb a g) (has (range_with_len (a + 1) n) g) h) [
      | inl here ↦ let same = eqb-true a g here in (omega arith, omega arith)
      | inr later ↦ let (low, high) = range-has (a + 1) n g later in (omega arith, omega arith)
    ]

-- the groups up to a number
pub has-all_groups : (groups g : ℕ) → 0 < g → g ≤ groups → has (all_groups groups) g ≡ true
has-all_groups groups g low high = has-range 1 groups g low (omega arith)

pub all_groups-has : (groups g : ℕ) → has (all_groups groups) g ≡ true → (0 < g) × (g ≤ groups)
all_groups-has groups g h = let (low, high) = range-has 1 groups g h in (low, omega arith)

-- the groups of a set are among those up to its last one
pub IsSubset-up_to_last : (set : List ℕ) (last : ℕ) → IsGroupSet set → slice_get set (length set - 1) ≡ Some last → IsSubset set (all_groups last)
IsSubset-up_to_last [] last ok is g h = absurd (false≢true h)
IsSubset-up_to_last (x ∷ xs) last ok is g h =
    let at = length (x ∷ xs) - 1 in
    let most = at_most_last 0 (x ∷ xs) at g last ok (omega arith) h in
    let there = get_or_from_slice_get (x ∷ xs) at last last is in
    has-all_groups last g (AscendsAbove-has 0 (x ∷ xs) g ok h) (omega arith)

-- the complement of the complement is the set
pub complement_twice : (groups : ℕ) (set : List ℕ) → IsGroupSet set → IsSubset set (all_groups groups) → complement groups (complement groups set) ≡ set
complement_twice groups set ok within =
    AscendsAbove-same 0 (complement groups (complement groups set)) set
    (IsGroupSet-complement groups (complement groups set) (complement groups (complement groups set)) refl) ok
    (complement_twice-IsSubset groups set) (IsSubset-complement_twice groups set within)

-- the complement of a set up to i, where the groups of the set from the place `at` on are above i, and those before are not
pub record Merged (set rest : List ℕ) (i at : ℕ) : Type 0 where
  pub done : rest ≡ complement i set
  pub ahead : AscendsAbove i (drop at set)
  pub seen : (g : ℕ) → i < g → has set g ≡ has (drop at set) g

pub Merged-start : (set rest : List ℕ) → IsGroupSet set → rest ≡ [] → Merged set rest 0 0
Merged-start set rest ok none = record { done = none; ahead = ok; seen = λ g lt. refl }

-- the next group is the set's next one
pub Merged-met : (set old new : List ℕ) (i at d : ℕ) → Merged set old i at → at < length set → get_or set at d ≡ i + 1 → new ≡ old → Merged set new (i + 1) (at + 1)
Merged-met set old new i at d m lt met same =
    let split : drop at set ≡ (i + 1) ∷ drop (at + 1) set = drop_more set at d lt ∙ ap (λ x. x ∷ drop (at + 1) set) met in
    let ascends : AscendsAbove i ((i + 1) ∷ drop (at + 1) set) = subst (AscendsAbove i) split m.ahead in
    let inside : has set (i + 1) ≡ true =
    m.seen (i + 1) (omega arith) ∙ ap (λ xs. has xs (i + 1)) split ∙ or_left (eqb (i + 1) (i + 1)) (has (drop (at + 1) set) (i + 1)) (eq-eqb (i + 1) (i + 1) refl) in
    record {
      done = same ∙ m.done ∙ sym (complement_more i set ∙ ap (λ b. complement i set ++ cond (not b) ((i + 1) ∷ []) []) inside ∙ append-nil (complement i set));
      ahead = ascends.1;
      seen = λ g above.
          m.seen g (omega arith) ∙ ap (λ xs. has xs g) split ∙ ap (λ b. b || has (drop (at + 1) set) g) (ne_eqb (i + 1) g (λ e. absurd (omega arith)));
    }

-- the next group is below the set's next one
pub Merged-passed : (set old new : List ℕ) (i at : ℕ) → Merged set old i at → AscendsAbove (i + 1) (drop at set) → new ≡ old ++ (i + 1) ∷ [] → Merged set new (i + 1) at
Merged-passed set old new i at m ahead is =
    let outside : has set (i + 1) ≡ false = m.seen (i + 1) (omega arith) ∙ not_has-bound (i + 1) (i + 1) (drop at set) (omega arith) ahead in
    record {
      done = is ∙ ap (λ xs. xs ++ (i + 1) ∷ []) m.done ∙ sym (complement_more i set ∙ ap (λ b. complement i set ++ cond (not b) ((i + 1) ∷ []) []) outside);
      ahead = ahead;
      seen = λ g above. m.seen g (omega arith);
    }

-- nothing of the set is left
pub ahead-end : (set : List ℕ) (i at : ℕ) → length set ≤ at → AscendsAbove (i + 1) (drop at set)
ahead-end set i at past = subst (AscendsAbove (i + 1)) (sym (drop_all at set past)) tt

pub ahead-passed : (set : List ℕ) (i at d : ℕ) → at < length set → AscendsAbove i (drop at set) → get_or set at d ≢ i + 1 → AscendsAbove (i + 1) (drop at set)
ahead-passed set i at d lt ahead other =
    let split = drop_more set at d lt in
    let ascends : AscendsAbove i (get_or set at d ∷ drop (at + 1) set) = subst (AscendsAbove i) split ahead in
    let above = ascends.0 in
    let first : i + 1 < get_or set at d = omega arith in
    subst (AscendsAbove (i + 1)) (sym split) (first, ascends.1)
