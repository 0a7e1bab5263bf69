-- An index of conflicts by their groups: how it grows, and that by it the least number that serves is found.
use Rattle.std.proofs.Common.{◌≡◌, ◌≢◌, ℕ, zero, suc, ◌+◌, ◌<◌, ◌≤◌, Bool, true, false, not, ◌&&◌, ◌||◌, cond, List, [], ◌∷◌, ◌++◌, length, get_or, take, drop, Some, None, refl, sym, ◌∙◌, ap, ap₂, subst, inl, inr, eqb, arith, append_assoc, append-nil, add-one, drop-cons}
use Rattle.std.specs.Prelude.{Result, Ok, Err, OnOk}
use Rattle.std.specs.List.{AllByRecursion, find, list_all}
use Rattle.std.specs.Option.{option_map, option_or}
use Rattle.std.proofs.lemmas.Bool.{false≢true, cases_Bool, eqb-true, eq-eqb, ne_eqb, false_from_ne_true, or_from, or_left, or_right}
use Rattle.std.proofs.lemmas.List.{take_all, take_more, take-append-drop}
use Rattle.std.proofs.lemmas.List.Folds.{find-append, list_all-append, list_all_more, list_any-append}
use Rattle.sat_base.proofs.Members.{all_at, any_from}
use Rattle.gm_base.specs.Sets.{AscendsAbove, IsGroupSet, IsSubset, has, without, complement}
use Rattle.gm_base.specs.Problem.{Problem, IsProblem, Sat}
use Rattle.gm_base.proofs.SetLemmas.{AscendsAbove-at, has-head, has-without, has-complement-from, all_groups-has}
use Rattle.gm_base.proofs.SatLemmas.{Sat-subset}
use Rattle.gm_base.proofs.EvidenceLemmas.{Sat-from_witness}
use Rattle.evidence_rec.specs.declared.record.Record.{Record}
use Rattle.evidence_rec.specs.declared.record.Record.TheVariants.{Conflict, Correction}
use Rattle.evidence_rec.specs.Records.{set_of, is_inside, IsAccepted, AllAcceptedBehind, AllAccepted, IsRight}
use Rattle.evidence_rec.specs.Shorten.{least_from, least_serving}
use Rattle.evidence_rec.specs.Serving.{is_conflict_with, places_from, IsIndexOf, IndexesOneMore, is_apart, ServesByGroup, FindsServing, CanShorten}
use Rattle.evidence_rec.proofs.AcceptedLemmas.{accepted-right}
use Rattle.evidence_rec.proofs.ApartLemmas.{apart-sym}

-- ---- lists that grow

-- a group does not stand before its place
before_itself : (low : ℕ) (set : List ℕ) (i : ℕ) → AscendsAbove low set → i < length set → has (take i set) (get_or set i 0) ≡ false
before_itself low [] i ascends lt = absurd (omega arith)
before_itself low (x ∷ xs) zero ascends lt = refl
before_itself low (x ∷ xs) (suc i) ascends lt =
    let within : i < length xs = omega arith in
    let above : x < get_or xs i 0 = AscendsAbove-at x xs i ascends.1 within in
    let other : eqb x (get_or xs i 0) ≡ false = false_from_ne_true (eqb x (get_or xs i 0)) (λ e. let same = eqb-true x (get_or xs i 0) e in absurd (omega (arith, same, above))) in
    ap₂ (λ a b. a || b) other (before_itself x xs i ascends.1 within)

or-nothing : (a b : Bool) → b ≡ false → (a || (b || false)) ≡ a
or-nothing true b e = refl
or-nothing false b e = ap (λ c. c || false) e

or-something : (a b : Bool) → b ≡ true → (a || (b || false)) ≡ true
or-something true b e = refl
or-something false b e = ap (λ c. c || false) e

has-one_more : (set : List ℕ) (i g : ℕ) → i < length set → has (take (i + 1) set) g ≡ (has (take i set) g || (eqb (get_or set i 0) g || false))
has-one_more set i g lt = ap (λ s. has s g) (take_more set i 0 lt) ∙ list_any-append (λ h. eqb h g) (take i set) (get_or set i 0 ∷ [])

-- a group that stands at a place is one of the set
pub has-there : (set : List ℕ) (i : ℕ) → i < length set → has set (get_or set i 0) ≡ true
has-there [] i lt = absurd (omega (arith, lt))
has-there (x ∷ xs) zero lt = or_left (eqb x x) (has xs x) (eq-eqb x x refl)
has-there (x ∷ xs) (suc i) lt = or_right (eqb x (get_or xs i 0)) (has xs (get_or xs i 0)) (has-there xs i (omega (arith, lt)))

-- what stood in the lists, and under the groups so far this place
abbrev pub AreListed : List (List ℕ) → List (List ℕ) → List ℕ → ℕ → Type 0
AreListed old new set at = (g : ℕ) → get_or new g [] ≡ get_or old g [] ++ cond (has set g) (at ∷ []) []

pub listed-none : (old : List (List ℕ)) (at : ℕ) → AreListed old old [] at
listed-none old at g = sym (append-nil (get_or old g []))

pub listed-more : (old mid new : List (List ℕ)) (set : List ℕ) (i at : ℕ) → IsGroupSet set → i < length set → AreListed old mid (take i set) at
    → get_or new (get_or set i 0) [] ≡ get_or mid (get_or set i 0) [] ++ at ∷ []
    → ((g : ℕ) → g ≢ get_or set i 0 → get_or new g [] ≡ get_or mid g [])
    → AreListed old new (take (i + 1) set) at
listed-more old mid new set i at ascends lt before own others g =
    elim (cases_Bool (eqb (get_or set i 0) g)) [ inl same ↦ here (eqb-true (get_or set i 0) g same) same | inr other ↦ there other ]
  where
    here : get_or set i 0 ≡ g → eqb (get_or set i 0) g ≡ true → get_or new g [] ≡ get_or old g [] ++ cond (has (take (i + 1) set) g) (at ∷ []) []
    here is same =
        let absent : has (take i set) g ≡ false = subst (λ h. has (take i set) h ≡ false) is (before_itself 0 set i ascends lt) in
        let present : has (take (i + 1) set) g ≡ true = has-one_more set i g lt ∙ or-something (has (take i set) g) (eqb (get_or set i 0) g) same in
        subst (λ h. get_or new h [] ≡ get_or mid h [] ++ at ∷ []) is own
        ∙ ap (λ xs. xs ++ at ∷ []) (before g ∙ ap (λ b. get_or old g [] ++ cond b (at ∷ []) []) absent ∙ append-nil (get_or old g []))
        ∙ sym (ap (λ b. get_or old g [] ++ cond b (at ∷ []) []) present)

    there : eqb (get_or set i 0) g ≡ false → get_or new g [] ≡ get_or old g [] ++ cond (has (take (i + 1) set) g) (at ∷ []) []
    there other =
        let stays : has (take (i + 1) set) g ≡ has (take i set) g = has-one_more set i g lt ∙ or-nothing (has (take i set) g) (eqb (get_or set i 0) g) other in
        let apart : g ≢ get_or set i 0 = λ e. false≢true (sym other ∙ eq-eqb (get_or set i 0) g (sym e)) in
        others g apart ∙ before g ∙ sym (ap (λ b. get_or old g [] ++ cond b (at ∷ []) []) stays)

pub listed-all : (old new : List (List ℕ)) (set : List ℕ) (i at : ℕ) → length set ≤ i → AreListed old new (take i set) at → AreListed old new set at
listed-all old new set i at le listed = subst (λ s. AreListed old new s at) (take_all i set le) listed

-- ---- an index with a record more

places_from-push : (at g : ℕ) (rs : List Record) (r : Record) → places_from at g (rs ++ r ∷ []) ≡ places_from at g rs ++ cond (is_conflict_with g r) ((at + length rs) ∷ []) []
places_from-push at g [] r =
    let same : at ≡ at + 0 = omega arith in
    ap (λ n. cond (is_conflict_with g r) (n ∷ []) []) same
places_from-push at g (x ∷ xs) r =
    let counts : (at + 1) + length xs ≡ at + length (x ∷ xs) = omega arith in
    let rest : places_from (at + 1) g (xs ++ r ∷ []) ≡ places_from (at + 1) g xs ++ cond (is_conflict_with g r) ((at + length (x ∷ xs)) ∷ []) [] =
    places_from-push (at + 1) g xs r ∙ ap (λ n. places_from (at + 1) g xs ++ cond (is_conflict_with g r) (n ∷ []) []) counts in
    by (is_conflict_with g x) (places_from (at + 1) g (xs ++ r ∷ [])) (places_from (at + 1) g xs) (cond (is_conflict_with g r) ((at + length (x ∷ xs)) ∷ []) []) rest
  where
    by : (b : Bool) (whole front more : List ℕ) → whole ≡ front ++ more → cond b (at ∷ whole) whole ≡ cond b (at ∷ front) front ++ more
    by true whole front more is = ap (λ ks. at ∷ ks) is
    by false whole front more is = is

index-push : (earlier : List Record) (r : Record) (old new : List (List ℕ)) → length new ≡ length old → IsIndexOf earlier old
    → ((g : ℕ) → get_or new g [] ≡ get_or old g [] ++ cond (is_conflict_with g r) (length earlier ∷ []) []) → IsIndexOf (earlier ++ r ∷ []) new
index-push earlier r old new same is lists g lt =
    let within : g < length old = omega (arith, same, lt) in
    let number : length earlier ≡ 0 + length earlier = omega arith in
    lists g ∙ ap₂ (λ ks n. ks ++ cond (is_conflict_with g r) (n ∷ []) []) (is g within) number ∙ sym (places_from-push 0 g earlier r)

-- a conflict is listed
pub index-conflict : (r : Record) (count : ℕ) (old new : List (List ℕ)) (set : List ℕ) → ((g : ℕ) → is_conflict_with g r ≡ has set g) → length new ≡ length old → AreListed old new set count
    → IndexesOneMore count r old new
index-conflict r count old new set conflict same listed earlier counts is =
    index-push earlier r old new same is
    (λ g. listed g ∙ ap₂ (λ b n. get_or old g [] ++ cond b (n ∷ []) []) (sym (conflict g)) (sym counts))

-- where there was memory to list it
pub index-listed : {E : Type 0} (result : Result (Unit {0}) E) (r : Record) (count place : ℕ) (self old new : List (List ℕ)) (set : List ℕ)
    → ((g : ℕ) → is_conflict_with g r ≡ has set g) → place ≡ count → old ≡ self → OnOk result (length new ≡ length old) → OnOk result (AreListed old new set place)
    → OnOk result (IndexesOneMore count r self new)
index-listed (Ok done) r count place self old new set conflict at is same listed =
    subst (λ lists. IndexesOneMore count r lists new) is
    (index-conflict r count old new set conflict same (subst (AreListed old new set) at listed))
index-listed (Err e) r count place self old new set conflict at is same listed = tt

-- a correction is in no list
pub index-correction : (r : Record) (count : ℕ) (old new : List (List ℕ)) → ((g : ℕ) → is_conflict_with g r ≡ false) → new ≡ old → IndexesOneMore count r old new
index-correction r count old new correction same earlier counts is =
    index-push earlier r old new (ap length same) is
    (λ g.
    ap (λ lists. get_or lists g []) same
    ∙ sym (ap (λ b. get_or old g [] ++ cond b (length earlier ∷ []) []) (correction g) ∙ append-nil (get_or old g [])))

-- an index of nothing has empty lists
pub index-none : (lists : List (List ℕ)) → ((g : ℕ) → g < length lists → get_or lists g [] ≡ []) → IsIndexOf [] lists
index-none lists empty g lt = empty g lt

-- ---- what is found

-- no place before the first record's
place-before : (at g : ℕ) (rs : List Record) (k : ℕ) → k < at → has (places_from at g rs) k ≡ false
place-before at g [] k lt = refl
place-before at g (r ∷ rs) k lt = by (is_conflict_with g r) (places_from (at + 1) g rs) (place-before (at + 1) g rs k (omega arith))
  where
    by : (b : Bool) (ks : List ℕ) → has ks k ≡ false → has (cond b (at ∷ ks) ks) k ≡ false
    by true ks none = or_from (eqb at k) (has ks k) (ne_eqb at k (λ same. absurd (omega arith))) none
    by false ks none = none

-- the place of a record is listed under the groups of a conflict
place-listed : (at g : ℕ) (rs : List Record) (i : ℕ) (d : Record) → i < length rs → has (places_from at g rs) (at + i) ≡ is_conflict_with g (get_or rs i d)
place-listed at g [] i d lt = absurd (omega (arith, lt))
place-listed at g (r ∷ rs) zero d lt = by (is_conflict_with g r) (places_from (at + 1) g rs) (place-before (at + 1) g rs (at + 0) (omega arith))
  where
    by : (b : Bool) (ks : List ℕ) → has ks (at + 0) ≡ false → has (cond b (at ∷ ks) ks) (at + 0) ≡ b
    by true ks none = or_left (eqb at (at + 0)) (has ks (at + 0)) (eq-eqb at (at + 0) (omega arith))
    by false ks none = none
place-listed at g (r ∷ rs) (suc i) d lt =
    let there : at + 1 + i ≡ at + suc i = omega arith in
    by (is_conflict_with g r) (places_from (at + 1) g rs)
    (subst (λ n. has (places_from (at + 1) g rs) n ≡ is_conflict_with g (get_or rs i d)) there (place-listed (at + 1) g rs i d (omega (arith, lt))))
  where
    by : (b : Bool) (ks : List ℕ) → has ks (at + suc i) ≡ is_conflict_with g (get_or rs i d)
        → has (cond b (at ∷ ks) ks) (at + suc i) ≡ is_conflict_with g (get_or rs i d)
    by true ks rest = ap (λ e. e || has ks (at + suc i)) (ne_eqb at (at + suc i) (λ same. absurd (omega arith))) ∙ rest
    by false ks rest = rest

all-same : (p q : ℕ → Bool) (xs : List ℕ) → ((x : ℕ) → has xs x ≡ true → p x ≡ q x) → list_all p xs ≡ list_all q xs
all-same p q [] same = refl
all-same p q (x ∷ xs) same =
    ap₂ (λ a b. a && b) (same x (has-head x xs)) (all-same p q xs (λ y on. same y (or_right (eqb x y) (has xs y) on)))

-- so the lists of the correction's groups say of a conflict whether it serves
apart-there : (lists : List (List ℕ)) (set : List ℕ) (g at : ℕ) (r : Record)
    → ((h : ℕ) → has set h ≡ true → has (get_or lists h []) at ≡ is_conflict_with h r) → is_conflict_with g r ≡ true
    → is_apart lists set g at ≡ is_inside set g r
apart-there lists set g at (Correction groups w rs) listed on = absurd (false≢true on)
apart-there lists set g at (Conflict groups proof ws) listed on =
    all-same (λ h. eqb h g || not (has (get_or lists h []) at)) (λ h. not (has (without groups g) h)) set
    (λ h in_set.
    ap (λ b. eqb h g || not b) (listed h in_set) ∙ both (eqb h g) (has groups h) ∙ sym (ap not (has-without groups g h)))
    ∙ apart-sym g set groups
  where
    both : (e b : Bool) → (e || not b) ≡ not (not e && b)
    both true b = refl
    both false b = refl

-- what serves is a conflict
conflict-inside : (set : List ℕ) (g : ℕ) (r : Record) → is_inside set g r ≡ true → has (set_of r) g ≡ true → is_conflict_with g r ≡ true
conflict-inside set g (Conflict groups proof ws) inside on = on
conflict-inside set g (Correction groups w rs) inside on = absurd (false≢true inside)

-- the first conflict that passes the test, by its place and by itself
least-by_places : (test : ℕ → Bool) (set : List ℕ) (g at : ℕ) (rs : List Record) → ServesByGroup set g rs
    → ((i : ℕ) (d : Record) → i < length rs → is_conflict_with g (get_or rs i d) ≡ true → test (at + i) ≡ is_inside set g (get_or rs i d))
    → least_from (at + 1) set g rs ≡ option_map (λ k. k + 1) (find test (places_from at g rs))
least-by_places test set g at [] by_group tells = refl
least-by_places test set g at (r ∷ rs) by_group tells =
    let later : least_from (at + 1 + 1) set g rs ≡ option_map (λ k. k + 1) (find test (places_from (at + 1) g rs)) =
    least-by_places test set g (at + 1) rs by_group.1
    (λ i d lt on.
    let there : at + suc i ≡ at + 1 + i = omega arith in
    subst (λ n. test n ≡ is_inside set g (get_or rs i d)) there (tells (suc i) d (omega (arith, lt)) on)) in
    elim (cases_Bool (is_conflict_with g r)) [ inl on ↦ listed later on | inr off ↦ passed later off ]
  where
    step : (b : Bool) (ks : List ℕ) → test at ≡ b → least_from (at + 1 + 1) set g rs ≡ option_map (λ k. k + 1) (find test ks)
        → cond b (Some (at + 1)) (least_from (at + 1 + 1) set g rs) ≡ option_map (λ k. k + 1) (find test (at ∷ ks))
    step true ks is later = sym (ap (λ c. option_map (λ k. k + 1) (cond c (Some at) (find test ks))) is)
    step false ks is later = later ∙ sym (ap (λ c. option_map (λ k. k + 1) (cond c (Some at) (find test ks))) is)

    listed : least_from (at + 1 + 1) set g rs ≡ option_map (λ k. k + 1) (find test (places_from (at + 1) g rs)) → is_conflict_with g r ≡ true
        → least_from (at + 1) set g (r ∷ rs) ≡ option_map (λ k. k + 1) (find test (places_from at g (r ∷ rs)))
    listed later on =
        let there : at + 0 ≡ at = omega arith in
        step (is_inside set g r) (places_from (at + 1) g rs) (subst (λ n. test n ≡ is_inside set g r) there (tells 0 r (omega arith) on)) later
        ∙ sym (ap (λ c. option_map (λ k. k + 1) (find test (cond c (at ∷ places_from (at + 1) g rs) (places_from (at + 1) g rs)))) on)

    passed : least_from (at + 1 + 1) set g rs ≡ option_map (λ k. k + 1) (find test (places_from (at + 1) g rs)) → is_conflict_with g r ≡ false
        → least_from (at + 1) set g (r ∷ rs) ≡ option_map (λ k. k + 1) (find test (places_from at g (r ∷ rs)))
    passed later off =
        let outside : is_inside set g r ≡ false =
        false_from_ne_true (is_inside set g r) (λ inside. false≢true (sym off ∙ conflict-inside set g r inside (by_group.0 inside))) in
        ap (λ b. cond b (Some (at + 1)) (least_from (at + 1 + 1) set g rs)) outside ∙ later
        ∙ sym (ap (λ c. option_map (λ k. k + 1) (find test (cond c (at ∷ places_from (at + 1) g rs) (places_from (at + 1) g rs)))) off)

pub least-found_by : (earlier : List Record) (set : List ℕ) (g : ℕ) (lists : List (List ℕ)) → FindsServing earlier set lists → has set g ≡ true
    → option_map (λ k. k + 1) (find (is_apart lists set g) (get_or lists g [])) ≡ least_serving earlier set g
least-found_by earlier set g lists finds on =
    ap (λ ks. option_map (λ k. k + 1) (find (is_apart lists set g) ks)) (finds.is_index g (finds.within g on))
    ∙ sym
    (least-by_places (is_apart lists set g) set g 0 earlier (finds.by_group g on)
    (λ i d lt conflict.
    apart-there lists set g (0 + i) (get_or earlier i d)
    (λ h in_set. ap (λ ks. has ks (0 + i)) (finds.is_index h (finds.within h in_set)) ∙ place-listed 0 h earlier i d lt) conflict))

-- ---- the walk over blocks

-- a group more takes its places from what is left
pub apart-none : (x : Bool) → x ≡ (x && true)
apart-none true = refl
apart-none false = refl

pub apart-more : (lists : List (List ℕ)) (set : List ℕ) (g at k : ℕ) (new old x : Bool) → k < length set
    → new ≡ (old && (eqb (get_or set k 0) g || not (has (get_or lists (get_or set k 0) []) at))) → old ≡ (x && is_apart lists (take k set) g at)
    → new ≡ (x && is_apart lists (take (k + 1) set) g at)
apart-more lists set g at k new old x lt is before =
    let test : ℕ → Bool = λ h. eqb h g || not (has (get_or lists h []) at) in
    is ∙ ap (λ b. b && test (get_or set k 0)) before ∙ and-and x (list_all test (take k set)) (test (get_or set k 0))
    ∙ ap (λ b. x && b) (sym (list_all_more test set k 0 lt))
  where
    and-and : (a b c : Bool) → ((a && b) && c) ≡ (a && (b && c))
    and-and true b c = refl
    and-and false b c = refl

-- where nothing is left, more groups leave nothing
pub apart-nothing : (lists : List (List ℕ)) (set : List ℕ) (g at k : ℕ) (x : Bool) → false ≡ (x && is_apart lists (take k set) g at)
    → false ≡ (x && is_apart lists set g at)
apart-nothing lists set g at k x none =
    let test : ℕ → Bool = λ h. eqb h g || not (has (get_or lists h []) at) in
    by x (list_all test (take k set)) (list_all test (drop k set)) none
    ∙ ap (λ b. x && b) (sym (list_all-append test (take k set) (drop k set)) ∙ ap (list_all test) (take-append-drop k set))
  where
    by : (a b c : Bool) → false ≡ (a && b) → false ≡ (a && (b && c))
    by true true c e = absurd (false≢true e)
    by true false c e = refl
    by false b c e = refl

-- a place that is found in the block that the walk is at, or those behind it tell
pub first-here : (test : ℕ → Bool) (xs ys : List ℕ) (k : ℕ) → find test xs ≡ Some k → find test (xs ++ ys) ≡ Some k
first-here test xs ys k here = find-append test xs ys ∙ ap (λ o. option_or o (find test ys)) here

pub first-later : (test : ℕ → Bool) (xs ys : List ℕ) → find test xs ≡ None → find test (xs ++ ys) ≡ find test ys
first-later test xs ys none = find-append test xs ys ∙ ap (λ o. option_or o (find test ys)) none

-- ---- the walk over records

-- the record that the walk is at
drop-there : (rs : List Record) (i : ℕ) (r : Record) → i < length rs → get_or rs i r ≡ r → drop i rs ≡ r ∷ drop (i + 1) rs
drop-there rs i r lt here = rw (add-one, drop-cons rs i r) (ap (λ y. y ∷ drop (suc i) rs) here)

-- ---- behind accepted records what serves has the group

-- a conflict without it would have no group of the correction, and then its witness satisfies the conflict
serves_by-group : (p : Problem) (set : List ℕ) (g : ℕ) (r : Record) → Sat p (complement p.groups set) → IsRight p r → is_inside set g r ≡ true → has (set_of r) g ≡ true
serves_by-group p set g (Correction groups w rs) sat right inside = absurd (false≢true inside)
serves_by-group p set g (Conflict groups proof ws) sat right inside =
    elim (cases_Bool (has groups g)) [ inl on ↦ on | inr off ↦ absurd (right.minimal.unsat (Sat-subset p groups (complement p.groups set) (held off) sat)) ]
  where
    gone : (b : Bool) → not b ≡ true → b ≡ false
    gone true e = sym e
    gone false e = refl

    held : has groups g ≡ false → IsSubset groups (complement p.groups set)
    held off h on =
        let (k, i, e) = any_from (λ x. eqb x h) groups on in
        let same : k ≡ h = eqb-true k h e in
        let outside : not (has (without set g) h) ≡ true = ap (λ n. not (has (without set g) n)) (sym same) ∙ all_at (λ x. not (has (without set g) x)) groups k inside i in
        let other : eqb h g ≡ false = false_from_ne_true (eqb h g) (λ t. false≢true (sym off ∙ subst (λ n. has groups n ≡ true) (eqb-true h g t) on)) in
        let parts : not (not (eqb h g) && has set h) ≡ true = ap not (sym (has-without set g h)) ∙ outside in
        let absent : not (has set h) ≡ true = ap (λ b. not (not b && has set h)) (sym other) ∙ parts in
        has-complement-from p.groups set h (right.within h on) (gone (has set h) absent)

serves_by-groups : (p : Problem) (set : List ℕ) (g : ℕ) (rs : List Record) → Sat p (complement p.groups set) → AllByRecursion (IsRight p) rs → ServesByGroup set g rs
serves_by-groups p set g [] sat right = tt
serves_by-groups p set g (r ∷ rs) sat right = (serves_by-group p set g r sat right.0, serves_by-groups p set g rs sat right.1)

-- so an index of all groups finds it
pub can-shorten : (p : Problem) (earlier : List Record) (r : Record) (lists : List (List ℕ)) → IsProblem p → AllAccepted p earlier → IsAccepted p earlier r
    → length lists ≡ p.groups + 1 → IsIndexOf earlier lists → CanShorten earlier r lists
can-shorten p earlier (Conflict groups proof ws) lists ok all here count is = tt
can-shorten p earlier (Correction set w rs) lists ok all here count is =
    record {
      is_index = is;
      within = λ g on. let high = (all_groups-has p.groups g (here.within g on)).1 in omega (arith, high, count);
      by_group = λ g on.
          serves_by-groups p set g earlier (Sat-from_witness p (complement p.groups set) w here.accepts.witnessed) (accepted-right p earlier ok all);
    }

-- the groups of an accepted record have lists
pub groups-within : (p : Problem) (earlier : List Record) (r : Record) (lists : List (List ℕ)) → IsAccepted p earlier r → length lists ≡ p.groups + 1
    → (g : ℕ) → has (set_of r) g ≡ true → g < length lists
groups-within p earlier r lists here count g on = let high = (all_groups-has p.groups g (here.within g on)).1 in omega (arith, high, count)

-- the walk over records: the first serves, or those behind it tell
pub least-here : (earlier : List Record) (set : List ℕ) (g i : ℕ) (r : Record) → i < length earlier → get_or earlier i r ≡ r → is_inside set g r ≡ true
    → least_from (i + 1) set g (drop i earlier) ≡ Some (i + 1)
least-here earlier set g i r lt here inside =
    ap (least_from (i + 1) set g) (drop-there earlier i r lt here) ∙ ap (λ b. cond b (Some (i + 1)) (least_from (i + 1 + 1) set g (drop (i + 1) earlier))) inside

pub least-later : (earlier : List Record) (set : List ℕ) (g i : ℕ) (r : Record) → i < length earlier → get_or earlier i r ≡ r → is_inside set g r ≡ false
    → least_from (i + 1) set g (drop i earlier) ≡ least_from (i + 1 + 1) set g (drop (i + 1) earlier)
least-later earlier set g i r lt here outside =
    ap (least_from (i + 1) set g) (drop-there earlier i r lt here) ∙ ap (λ b. cond b (Some (i + 1)) (least_from (i + 1 + 1) set g (drop (i + 1) earlier))) outside

-- ---- a list of records, from a place on

behind-front : (p : Problem) (earlier xs ys : List Record) → AllAcceptedBehind p earlier (xs ++ ys) → AllAcceptedBehind p earlier xs
behind-front p earlier [] ys h = tt
behind-front p earlier (x ∷ xs) ys h = (h.0, behind-front p (earlier ++ x ∷ []) xs ys h.1)

behind-rest : (p : Problem) (earlier xs ys : List Record) → AllAcceptedBehind p earlier (xs ++ ys) → AllAcceptedBehind p (earlier ++ xs) ys
behind-rest p earlier [] ys h = subst (λ e. AllAcceptedBehind p e ys) (sym (append-nil earlier)) h
behind-rest p earlier (x ∷ xs) ys h = subst (λ e. AllAcceptedBehind p e ys) (append_assoc earlier (x ∷ []) xs) (behind-rest p (earlier ++ x ∷ []) xs ys h.1)

-- those before a place are accepted, and the one there with them
pub accepted-front : (p : Problem) (records : List Record) (i : ℕ) → AllAccepted p records → AllAccepted p (take i records)
accepted-front p records i h = behind-front p [] (take i records) (drop i records) (subst (AllAcceptedBehind p []) (sym (take-append-drop i records)) h)

pub accepted-there : (p : Problem) (records : List Record) (i : ℕ) (r : Record) (rest : List Record) → drop i records ≡ r ∷ rest → AllAccepted p records → IsAccepted p (take i records) r
accepted-there p records i r rest is h =
    (subst (AllAcceptedBehind p (take i records)) is
    (behind-rest p [] (take i records) (drop i records) (subst (AllAcceptedBehind p []) (sym (take-append-drop i records)) h))).0
