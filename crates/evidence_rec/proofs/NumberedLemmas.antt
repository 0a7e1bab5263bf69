-- Conflicts under numbers of their own.
use Rattle.std.proofs.Common.{◌≡◌, ◌≢◌, ℕ, zero, suc, ◌+◌, ◌-◌, ◌<◌, ◌≤◌, Bool, true, false, ◌||◌, ◌&&◌, not, cond, eqb, List, [], ◌∷◌, ◌++◌, length, get_or, set, map, Option, Some, None, Result, Ok, Err, refl, sym, ◌∙◌, ap, ap₂, subst, inl, inr, arith, All}
use Rattle.std.specs.Prelude.{OnOk, OnErr}
use Rattle.std.specs.List.{find, list_all}
use Rattle.std.specs.Option.{option_map}
use Rattle.std.proofs.lemmas.Bool.{cases_eq, cases_order, eq-eqb, ne_eqb, false≢true}
use Rattle.std.proofs.lemmas.List.{map-append, get_or_append_left, get_or_push, get_or_read}
use Rattle.std.proofs.lemmas.List.Elements.{All-push, All-set, All-get_or, All-tail}
use Rattle.std.proofs.lemmas.List.Quantifiers.{all_pairs_push}
use Rattle.gm_base.specs.Sets.{has}
use Rattle.evidence_rec.specs.Numbered.{Rise, AreBelow, placed, IsNumbered}
use Rattle.evidence_rec.specs.declared.record.Record.{Record}
use Rattle.evidence_rec.specs.Shorten.{least_serving}
use Rattle.evidence_rec.specs.Serving.{is_apart, FindsServing}
use Rattle.evidence_rec.proofs.ServingLemmas.{least-found_by}

-- what stands at a group of the lists of places
pub get_or-placed : (places : List ℕ) (lists : List (List ℕ)) (g : ℕ) → get_or (placed places lists) g [] ≡ map (λ k. get_or places k 0) (get_or lists g [])
get_or-placed places [] g = refl
get_or-placed places (ks ∷ lists) zero = refl
get_or-placed places (ks ∷ lists) (suc g) = get_or-placed places lists g

-- numbers keep their places when one comes behind
kept : (places : List ℕ) (place : ℕ) (ks : List ℕ) → All (λ k. k < length places) ks → map (λ k. get_or (places ++ place ∷ []) k 0) ks ≡ map (λ k. get_or places k 0) ks
kept places place [] below = refl
kept places place (k ∷ ks) below =
    ap₂ (λ (x : ℕ) (xs : List ℕ). x ∷ xs) (get_or_append_left places (place ∷ []) 0 k (below 0 0 (omega arith))) (kept places place ks (All-tail (λ n. n < length places) k ks below))

below-at : (bound : ℕ) (lists : List (List ℕ)) (g : ℕ) → AreBelow bound lists → All (λ k. k < bound) (get_or lists g [])
below-at bound [] g below = λ k d lt. absurd (omega arith)
below-at bound (ks ∷ lists) zero below = below 0 [] (omega arith)
below-at bound (ks ∷ lists) (suc g) below = below-at bound lists g (All-tail (λ (ns : List ℕ). All (λ k. k < bound) ns) ks lists below)

-- a number that is listed puts its place into the lists of places
pub placed-listed : (places : List ℕ) (old new : List (List ℕ)) (in_set : ℕ → Bool) (number place : ℕ) → IsNumbered places old → number ≡ length places
    → ((g : ℕ) → get_or new g [] ≡ get_or old g [] ++ cond (in_set g) (number ∷ []) [])
    → (g : ℕ) → get_or (placed (places ++ place ∷ []) new) g [] ≡ get_or (placed places old) g [] ++ cond (in_set g) (place ∷ []) []
placed-listed places old new in_set number place is counts listed g =
    get_or-placed (places ++ place ∷ []) new g ∙ ap (map (λ k. get_or (places ++ place ∷ []) k 0)) (listed g)
    ∙ map-append (λ k. get_or (places ++ place ∷ []) k 0) (get_or old g []) (cond (in_set g) (number ∷ []) [])
    ∙ ap₂ (λ (xs ys : List ℕ). xs ++ ys) (kept places place (get_or old g []) (below-at (length places) old g is.below) ∙ sym (get_or-placed places old g)) (by (in_set g))
  where
    by : (b : Bool) → map (λ k. get_or (places ++ place ∷ []) k 0) (cond b (number ∷ []) []) ≡ cond b (place ∷ []) []
    by true = ap (λ (x : ℕ). x ∷ []) (get_or_push places place 0 number (sym counts))
    by false = refl

-- a place stands in the list just where its number does
has-placed : (places : List ℕ) (k : ℕ) (ks : List ℕ) → Rise places → k < length places → All (λ n. n < length places) ks
    → has (map (λ n. get_or places n 0) ks) (get_or places k 0) ≡ has ks k
has-placed places k [] rise lt below = refl
has-placed places k (n ∷ ks) rise lt below =
    ap₂ (λ a b. a || b) (same (below 0 0 (omega arith))) (has-placed places k ks rise lt (All-tail (λ m. m < length places) n ks below))
  where
    same : n < length places → eqb (get_or places n 0) (get_or places k 0) ≡ eqb n k
    same within = elim (cases_order n k) [
      | inl equal ↦ eq-eqb (get_or places n 0) (get_or places k 0) (ap (λ m. get_or places m 0) equal) ∙ sym (eq-eqb n k equal)
      | inr (inl less) ↦
          let up = rise n k 0 less lt in
          ne_eqb (get_or places n 0) (get_or places k 0) (λ e. absurd (omega arith)) ∙ sym (ne_eqb n k (λ e. absurd (omega arith)))
      | inr (inr more) ↦
          let up = rise k n 0 more within in
          ne_eqb (get_or places n 0) (get_or places k 0) (λ e. absurd (omega arith)) ∙ sym (ne_eqb n k (λ e. absurd (omega arith)))
    ]

apart-placed : (places : List ℕ) (lists : List (List ℕ)) (gs : List ℕ) (g k : ℕ) → IsNumbered places lists → k < length places
    → is_apart (placed places lists) gs g (get_or places k 0) ≡ is_apart lists gs g k
apart-placed places lists [] g k is lt = refl
apart-placed places lists (h ∷ hs) g k is lt =
    ap₂ (λ a b. (eqb h g || not a) && b)
    (ap (λ ps. has ps (get_or places k 0)) (get_or-placed places lists h) ∙ has-placed places k (get_or lists h []) is.rise lt (below-at (length places) lists h is.below))
    (apart-placed places lists hs g k is lt)

-- so what is found by numbers is found by places
pub find-placed : (places : List ℕ) (lists : List (List ℕ)) (gs ks : List ℕ) (g : ℕ) → IsNumbered places lists → All (λ k. k < length places) ks
    → find (is_apart (placed places lists) gs g) (map (λ k. get_or places k 0) ks) ≡ option_map (λ k. get_or places k 0) (find (is_apart lists gs g) ks)
find-placed places lists gs [] g is below = refl
find-placed places lists gs (k ∷ ks) g is below =
    ap₂ (λ (b : Bool) (o : Option ℕ). cond b (Some (get_or places k 0)) o) (apart-placed places lists gs g k is (below 0 0 (omega arith)))
    (find-placed places lists gs ks g is (All-tail (λ n. n < length places) k ks below))
    ∙ by (is_apart lists gs g k)
  where
    by : (b : Bool) → cond b (Some (get_or places k 0)) (option_map (λ n. get_or places n 0) (find (is_apart lists gs g) ks))
        ≡ option_map (λ n. get_or places n 0) (cond b (Some k) (find (is_apart lists gs g) ks))
    by true = refl
    by false = refl

pub found-placed : (places : List ℕ) (lists : List (List ℕ)) (gs : List ℕ) (g : ℕ) → IsNumbered places lists
    → option_map (λ k. k + 1) (find (is_apart (placed places lists) gs g) (get_or (placed places lists) g []))
    ≡ option_map (λ k. get_or places k 0 + 1) (find (is_apart lists gs g) (get_or lists g []))
found-placed places lists gs g is =
    ap (λ ks. option_map (λ k. k + 1) (find (is_apart (placed places lists) gs g) ks)) (get_or-placed places lists g)
    ∙ ap (option_map (λ k. k + 1)) (find-placed places lists gs (get_or lists g []) g is (below-at (length places) lists g is.below))
    ∙ by (find (is_apart lists gs g) (get_or lists g []))
  where
    by : (o : Option ℕ) → option_map (λ k. k + 1) (option_map (λ k. get_or places k 0) o) ≡ option_map (λ k. get_or places k 0 + 1) o
    by None = refl
    by (Some k) = refl

-- what is found is one of the numbers
pub find-below : (test : ℕ → Bool) (ks : List ℕ) (bound k : ℕ) → All (λ n. n < bound) ks → find test ks ≡ Some k → k < bound
find-below test [] bound k below found = absurd (cc)
find-below test (n ∷ ks) bound k below found = by (test n) found (below 0 0 (omega arith)) (find-below test ks bound k (All-tail (λ m. m < bound) n ks below))
  where
    by : (b : Bool) → cond b (Some n) (find test ks) ≡ Some k → n < bound → (find test ks ≡ Some k → k < bound) → k < bound
    by true is lt rest = let same : n ≡ k = cc in omega arith
    by false is lt rest = rest is

pub number-below : (places : List ℕ) (lists : List (List ℕ)) (test : ℕ → Bool) (g k : ℕ) → IsNumbered places lists → find test (get_or lists g []) ≡ Some k → k < length places
number-below places lists test g k is found = find-below test (get_or lists g []) (length places) k (below-at (length places) lists g is.below) found

pub below-more : (bound more : ℕ) (lists : List (List ℕ)) → bound ≤ more → AreBelow bound lists → AreBelow more lists
below-more bound more lists le below k d lt i e within = let here = below k d lt i e within in omega arith

-- a number behind those of one list
pub below-set : (bound number g : ℕ) (lists : List (List ℕ)) (ks : List ℕ) → number < bound → AreBelow bound lists → ks ≡ get_or lists g [] ++ number ∷ [] → AreBelow bound (set lists g ks)
below-set bound number g lists ks lt below is =
    All-set (λ (ns : List ℕ). All (λ k. k < bound) ns) lists g ks
    (subst (λ (ns : List ℕ). All (λ k. k < bound) ns) (sym is) (All-push (λ k. k < bound) (get_or lists g []) number (below-at bound lists g below) lt)) below

pub below-kept : (bound g : ℕ) (lists : List (List ℕ)) (ks : List ℕ) → AreBelow bound lists → ks ≡ get_or lists g [] → AreBelow bound (set lists g ks)
below-kept bound g lists ks below is =
    All-set (λ (ns : List ℕ). All (λ k. k < bound) ns) lists g ks (subst (λ (ns : List ℕ). All (λ k. k < bound) ns) (sym is) (below-at bound lists g below)) below

-- places that rise, and one above the last
pub rise-push : (places : List ℕ) (place : ℕ) → Rise places → ((i d : ℕ) → i + 1 ≡ length places → get_or places i d < place) → Rise (places ++ place ∷ [])
rise-push places place rise above =
    all_pairs_push (λ (a b : ℕ). a < b) places place rise
    (λ k d lt.
    let last : ℕ = length places - 1 in
    let high = above last d (omega arith) in
    elim (cases_eq k last) [
      | inl same ↦ let here = ap (λ (n : ℕ). get_or places n d) same in omega arith
      | inr other ↦ let below = rise k last d (omega arith) (omega arith) in omega arith
    ])

pub length-placed : (places : List ℕ) (lists : List (List ℕ)) → length (placed places lists) ≡ length lists
length-placed places [] = refl
length-placed places (ks ∷ lists) = ap suc (length-placed places lists)

pub placed-empty : (places : List ℕ) (lists : List (List ℕ)) → ((g : ℕ) → g < length lists → get_or lists g [] ≡ [])
    → (g : ℕ) → g < length (placed places lists) → get_or (placed places lists) g [] ≡ []
placed-empty places lists empty g lt =
    get_or-placed places lists g ∙ ap (map (λ k. get_or places k 0)) (empty g (subst (λ n. g < n) (length-placed places lists) lt))

pub placed-groups : {E : Type 0} (result : Result (Unit {0}) E) (places more : List ℕ) (old new self : List (List ℕ)) → placed places old ≡ self
    → OnOk result (length new ≡ length old) → OnOk result (length (placed more new) ≡ length self)
placed-groups (Ok done) places more old new self is same = length-placed more new ∙ same ∙ sym (length-placed places old) ∙ ap length is
placed-groups (Err e) places more old new self is same = tt

pub placed-on_ok : {E : Type 0} (result : Result (Unit {0}) E) (places more : List ℕ) (old new : List (List ℕ)) (set : List ℕ) (number place : ℕ)
    → IsNumbered places old → number ≡ length places → more ≡ places ++ place ∷ []
    → OnOk result ((g : ℕ) → get_or new g [] ≡ get_or old g [] ++ cond (has set g) (number ∷ []) [])
    → OnOk result ((g : ℕ) → get_or (placed more new) g [] ≡ get_or (placed places old) g [] ++ cond (has set g) (place ∷ []) [])
placed-on_ok (Ok done) places more old new set number place is counts grown listed = λ g.
    ap (λ ps. get_or (placed ps new) g []) grown ∙ placed-listed places old new (has set) number place is counts listed g
placed-on_ok (Err e) places more old new set number place is counts grown listed = tt

-- what the walk over a group's numbers found, by the lists
pub found-by : (lists items : List (List ℕ)) (gs set : List ℕ) (g : ℕ) (row ks : List ℕ) (r : Option ℕ) → lists ≡ items → gs ≡ set → g < length lists
    → ks ≡ row → row ≡ get_or lists g row → r ≡ find (is_apart lists gs g) ks → r ≡ find (is_apart items set g) (get_or items g [])
found-by lists items gs set g row ks r same sets within is read found =
    found ∙ ap₂ (λ (ls : List (List ℕ)) (ns : List ℕ). find (is_apart ls gs g) ns) same (is ∙ get_or_read lists g row within read [] ∙ ap (λ ls. get_or ls g []) same)
    ∙ ap (λ hs. find (is_apart items hs g) (get_or items g [])) sets

-- and by the places, which is the least of all
pub least-placed : (places : List ℕ) (items self : List (List ℕ)) (set : List ℕ) (g : ℕ) (earlier : List Record) (r : Option ℕ) → IsNumbered places items
    → placed places items ≡ self → FindsServing earlier set self → has set g ≡ true → r ≡ find (is_apart items set g) (get_or items g [])
    → option_map (λ k. get_or places k 0 + 1) r ≡ least_serving earlier set g
least-placed places items self set g earlier r is view finds on found =
    ap (option_map (λ k. get_or places k 0 + 1)) found ∙ sym (found-placed places items set g is)
    ∙ ap (λ ls. option_map (λ k. k + 1) (find (is_apart ls set g) (get_or ls g []))) view ∙ least-found_by earlier set g self finds on

pub within-placed : (places : List ℕ) (items lists self : List (List ℕ)) (g : ℕ) → placed places items ≡ self → lists ≡ items → g < length self → g < length lists
within-placed places items lists self g view same lt =
    subst (λ ls. g < length ls) (sym same) (subst (λ n. g < n) (length-placed places items) (subst (λ ls. g < length ls) (sym view) lt))
