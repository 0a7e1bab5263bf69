-- Shortened records: what is named serves and is the least, and what was accepted is. What serves is told by kinds and sets
-- alone, and these stay.
use Rattle.std.proofs.Common.{◌≡◌, ℕ, zero, suc, ◌+◌, ◌<◌, Bool, true, false, not, ◌||◌, cond, List, [], ◌∷◌, ◌++◌, length, Option, Some, None, refl, sym, ◌∙◌, ap, ap₂, subst, inl, inr, arith}
use Rattle.std.specs.Prelude.{slice_get}
use Rattle.std.specs.List.{list_all, list_any}
use Rattle.std.specs.Option.{option_map_or}
use Rattle.std.proofs.lemmas.Bool.{false≢true, and_parts, and_from, cases_Bool}
use Rattle.gm_base.specs.Sets.{has, without}
use Rattle.gm_base.specs.Problem.{Problem}
use Rattle.gm_base.specs.Evidence.{each_passes}
use Rattle.gm_base.specs.Explored.{Found}
use Rattle.gm_base.specs.declared.kind.Kind.{Kind}
use Rattle.gm_base.specs.declared.kind.Kind.TheVariants as kind
use Rattle.evidence_rec.specs.declared.record.Record.{Record}
use Rattle.evidence_rec.specs.declared.record.Record.TheVariants.{Conflict, Correction}
use Rattle.evidence_rec.specs.declared.record.Refutation.{Refutation}
use Rattle.evidence_rec.specs.declared.record.Refutation.TheVariants.{Steps, Earlier}
use Rattle.evidence_rec.specs.Records.{found_of, kind_of, set_of, founds, numbered_record, is_inside, shows_refuted, IsAccepted, AllAcceptedBehind, AllAccepted}
use Rattle.evidence_rec.specs.Held.{same_kind, same_set, and_also, is_held, AreNew}
use Rattle.evidence_rec.specs.Shorten.{least_from, least_serving, naming, shortened_refutations, shortened, shortened_behind, shorten, Serves, IsLeast, LeastServes}

-- ---- what is named serves, and is the least

-- a test of the record at a place
abbrev passes_at : List ℕ → ℕ → List Record → ℕ → Type 0
passes_at set g rs k = option_map_or (is_inside set g) (slice_get rs k) false ≡ true

some_is : (a b : ℕ) → Some a ≡ Some b → a ≡ b
some_is a b e = cc

some_none : (a : ℕ) → Some a ≡ None → ⊥
some_none a e = cc

-- the first record serves
least-here : (n : ℕ) (set : List ℕ) (g : ℕ) (r : Record) (rs : List Record) → is_inside set g r ≡ true → least_from n set g (r ∷ rs) ≡ Some n
least-here n set g r rs inside = ap (λ b. cond b (Some n) (least_from (n + 1) set g rs)) inside

-- the first record does not
least-later : (n : ℕ) (set : List ℕ) (g : ℕ) (r : Record) (rs : List Record) → is_inside set g r ≡ false → least_from n set g (r ∷ rs) ≡ least_from (n + 1) set g rs
least-later n set g r rs outside = ap (λ b. cond b (Some n) (least_from (n + 1) set g rs)) outside

least_from-serves : (n : ℕ) (set : List ℕ) (g : ℕ) (rs : List Record) (i : ℕ) → least_from n set g rs ≡ Some i → (k : ℕ) × (i ≡ n + k) × passes_at set g rs k
least_from-serves n set g [] i is = absurd (some_none i (sym is))
least_from-serves n set g (r ∷ rs) i is =
    elim (cases_Bool (is_inside set g r)) [
      | inl inside ↦ let same : n ≡ i = some_is n i (sym (least-here n set g r rs inside) ∙ is) in (zero, omega (arith, same), inside)
      | inr outside ↦
          let (k, at, serves) = least_from-serves (n + 1) set g rs i (sym (least-later n set g r rs outside) ∙ is) in
          (suc k, omega (arith, at), serves)
    ]

least_from-none : (n : ℕ) (set : List ℕ) (g : ℕ) (rs : List Record) → least_from n set g rs ≡ None → (k : ℕ) → passes_at set g rs k → ⊥
least_from-none n set g [] is k serves = false≢true serves
least_from-none n set g (r ∷ rs) is k serves =
    elim (cases_Bool (is_inside set g r)) [
      | inl inside ↦ some_none n (sym (least-here n set g r rs inside) ∙ is)
      | inr outside ↦ by outside (least_from-none (n + 1) set g rs (sym (least-later n set g r rs outside) ∙ is)) k serves
    ]
  where
    by : is_inside set g r ≡ false → ((k : ℕ) → passes_at set g rs k → ⊥) → (k : ℕ) → passes_at set g (r ∷ rs) k → ⊥
    by outside rest zero serves = false≢true (sym outside ∙ serves)
    by outside rest (suc k) serves = rest k serves

least_from-below : (n : ℕ) (set : List ℕ) (g : ℕ) (rs : List Record) (i : ℕ) → least_from n set g rs ≡ Some i → (k : ℕ) → n + k < i → passes_at set g rs k → ⊥
least_from-below n set g [] i is k lt serves = false≢true serves
least_from-below n set g (r ∷ rs) i is k lt serves =
    elim (cases_Bool (is_inside set g r)) [
      | inl inside ↦ let same : n ≡ i = some_is n i (sym (least-here n set g r rs inside) ∙ is) in absurd (omega (arith, same, lt))
      | inr outside ↦ by outside (least_from-below (n + 1) set g rs i (sym (least-later n set g r rs outside) ∙ is)) k lt serves
    ]
  where
    by : is_inside set g r ≡ false → ((k : ℕ) → n + 1 + k < i → passes_at set g rs k → ⊥) → (k : ℕ) → n + k < i → passes_at set g (r ∷ rs) k → ⊥
    by outside rest zero lt serves = false≢true (sym outside ∙ serves)
    by outside rest (suc k) lt serves = rest k (omega (arith, lt)) serves

pub least-serves : (earlier : List Record) (set : List ℕ) (g i : ℕ) → least_serving earlier set g ≡ Some i → Serves earlier set g i
least-serves earlier set g i is =
    let (k, at, serves) = least_from-serves 1 set g earlier i is in
    let number : suc k ≡ i = omega (arith, at) in
    subst (Serves earlier set g) number serves

pub least-is_least : LeastServes
least-is_least earlier set g = by (least_serving earlier set g) refl
  where
    none : least_serving earlier set g ≡ None → (i : ℕ) → Serves earlier set g i → ⊥
    none is zero serves = false≢true serves
    none is (suc k) serves = least_from-none 1 set g earlier is k serves

    below : (least : ℕ) → least_serving earlier set g ≡ Some least → (i : ℕ) → i < least → Serves earlier set g i → ⊥
    below least is zero lt serves = false≢true serves
    below least is (suc k) lt serves = least_from-below 1 set g earlier least is k (omega (arith, lt)) serves

    by : (o : Option ℕ) → least_serving earlier set g ≡ o → IsLeast earlier set g o
    by None is = none is
    by (Some least) is = (least-serves earlier set g least is, below least is)

-- ---- kinds and sets tell what serves

abbrev inside_by : List ℕ → ℕ → Kind → List ℕ → Bool
inside_by set g kind.Conflict groups = list_all (λ h. not (has (without set g) h)) groups
inside_by set g kind.Correction groups = false

abbrev inside_found : List ℕ → ℕ → Found → Bool
inside_found set g f = inside_by set g f.kind f.set

inside-found : (set : List ℕ) (g : ℕ) (r : Record) → is_inside set g r ≡ inside_found set g (found_of r)
inside-found set g (Conflict groups proof ws) = refl
inside-found set g (Correction groups w rs) = refl

passes-found : (set : List ℕ) (g : ℕ) (rs : List Record) (k : ℕ)
    → option_map_or (is_inside set g) (slice_get rs k) false ≡ option_map_or (inside_found set g) (slice_get (founds rs) k) false
passes-found set g [] k = refl
passes-found set g (r ∷ rs) zero = inside-found set g r
passes-found set g (r ∷ rs) (suc k) = passes-found set g rs k

serves-same : (set : List ℕ) (g : ℕ) (a b : List Record) (i : ℕ) → founds a ≡ founds b
    → option_map_or (is_inside set g) (numbered_record a i) false ≡ option_map_or (is_inside set g) (numbered_record b i) false
serves-same set g a b zero same = refl
serves-same set g a b (suc k) same =
    passes-found set g a k ∙ ap (λ (fs : List Found). option_map_or (inside_found set g) (slice_get fs k) false) same ∙ sym (passes-found set g b k)

abbrev least_found : ℕ → List ℕ → ℕ → List Found → Option ℕ
least_found n set g [] = None
least_found n set g (f ∷ fs) = cond (inside_found set g f) (Some n) (least_found (n + 1) set g fs)

least-found : (n : ℕ) (set : List ℕ) (g : ℕ) (rs : List Record) → least_from n set g rs ≡ least_found n set g (founds rs)
least-found n set g [] = refl
least-found n set g (r ∷ rs) = ap₂ (λ b o. cond b (Some n) o) (inside-found set g r) (least-found (n + 1) set g rs)

least-same : (set : List ℕ) (g : ℕ) (a b : List Record) → founds a ≡ founds b → least_serving a set g ≡ least_serving b set g
least-same set g a b same = least-found 1 set g a ∙ ap (least_found 1 set g) same ∙ sym (least-found 1 set g b)

-- ---- kinds and sets stay

found-shortened : (earlier : List Record) (r : Record) → found_of (shortened earlier r) ≡ found_of r
found-shortened earlier (Conflict groups proof ws) = refl
found-shortened earlier (Correction groups w rs) = refl

founds-end : (rs : List Record) (r : Record) → founds (rs ++ r ∷ []) ≡ founds rs ++ found_of r ∷ []
founds-end [] r = refl
founds-end (q ∷ qs) r = ap (λ fs. found_of q ∷ fs) (founds-end qs r)

-- behind a record and behind what it was shortened to
founds-push : (before earlier : List Record) (r : Record) → founds before ≡ founds earlier
    → founds (before ++ shortened earlier r ∷ []) ≡ founds (earlier ++ r ∷ [])
founds-push before earlier r same =
    founds-end before (shortened earlier r) ∙ ap₂ (λ fs f. fs ++ f ∷ []) same (found-shortened earlier r) ∙ sym (founds-end earlier r)

founds-behind : (earlier rs : List Record) → founds (shortened_behind earlier rs) ≡ founds rs
founds-behind earlier [] = refl
founds-behind earlier (r ∷ rs) = ap₂ (λ f fs. f ∷ fs) (found-shortened earlier r) (founds-behind (earlier ++ r ∷ []) rs)

pub founds-shorten : (rs : List Record) → founds (shorten rs) ≡ founds rs
founds-shorten rs = founds-behind [] rs

length-behind : (earlier rs : List Record) → length (shortened_behind earlier rs) ≡ length rs
length-behind earlier [] = refl
length-behind earlier (r ∷ rs) = ap suc (length-behind (earlier ++ r ∷ []) rs)

pub length-shorten : (rs : List Record) → length (shorten rs) ≡ length rs
length-shorten rs = length-behind [] rs

abbrev held_by : Kind → List ℕ → List Found → Bool
held_by k set fs = list_any (λ (f : Found). and_also (same_kind f.kind k) (same_set f.set set)) fs

held-found : (rs : List Record) (k : Kind) (set : List ℕ) → is_held rs k set ≡ held_by k set (founds rs)
held-found [] k set = refl
held-found (r ∷ rs) k set = ap (λ b. and_also (same_kind (kind_of r) k) (same_set (set_of r) set) || b) (held-found rs k set)

new-behind : (before earlier rs : List Record) → founds before ≡ founds earlier → AreNew earlier rs → AreNew before (shortened_behind earlier rs)
new-behind before earlier [] same new = tt
new-behind before earlier (r ∷ rs) same new = (head r new.0, new-behind (before ++ shortened earlier r ∷ []) (earlier ++ r ∷ []) rs (founds-push before earlier r same) new.1)
  where
    held : (k : Kind) (set : List ℕ) → is_held before k set ≡ is_held earlier k set
    held k set = held-found before k set ∙ ap (held_by k set) same ∙ sym (held-found earlier k set)

    head : (q : Record) → is_held earlier (kind_of q) (set_of q) ≡ false → is_held before (kind_of (shortened earlier q)) (set_of (shortened earlier q)) ≡ false
    head (Conflict groups proof ws) none = held kind.Conflict groups ∙ none
    head (Correction groups w proofs) none = held kind.Correction groups ∙ none

pub new-shorten : (rs : List Record) → AreNew [] rs → AreNew [] (shorten rs)
new-shorten rs new = new-behind [] [] rs refl new

-- ---- what was accepted is

-- behind records with the same kinds and sets
shown-named : (p : Problem) (before earlier : List Record) (set : List ℕ) (g : ℕ) (r : Refutation) → founds before ≡ founds earlier
    → shows_refuted p earlier set g r ≡ true → shows_refuted p before set g (naming (least_serving earlier set g) r) ≡ true
shown-named p before earlier set g r same shown = by (least_serving earlier set g) refl
  where
    kept : (q : Refutation) → shows_refuted p earlier set g q ≡ true → shows_refuted p before set g q ≡ true
    kept (Steps d) h = h
    kept (Earlier i) h = serves-same set g before earlier i same ∙ h

    by : (o : Option ℕ) → least_serving earlier set g ≡ o → shows_refuted p before set g (naming o r) ≡ true
    by None is = kept r shown
    by (Some i) is = serves-same set g before earlier i same ∙ least-serves earlier set g i is

refuted-shortened : (p : Problem) (before earlier : List Record) (set gs : List ℕ) (rs : List Refutation) → founds before ≡ founds earlier
    → each_passes (shows_refuted p earlier set) gs rs ≡ true → each_passes (shows_refuted p before set) gs (shortened_refutations earlier set gs rs) ≡ true
refuted-shortened p before earlier set [] [] same h = refl
refuted-shortened p before earlier set [] (r ∷ rs) same h = absurd (false≢true h)
refuted-shortened p before earlier set (g ∷ gs) [] same h = absurd (false≢true h)
refuted-shortened p before earlier set (g ∷ gs) (r ∷ rs) same h =
    let parts = and_parts (shows_refuted p earlier set g r) (each_passes (shows_refuted p earlier set) gs rs) h in
    and_from (shows_refuted p before set g (naming (least_serving earlier set g) r)) (each_passes (shows_refuted p before set) gs (shortened_refutations earlier set gs rs))
    (shown-named p before earlier set g r same parts.0) (refuted-shortened p before earlier set gs rs same parts.1)

accepted-shortened : (p : Problem) (before earlier : List Record) (r : Record) → founds before ≡ founds earlier → IsAccepted p earlier r
    → IsAccepted p before (shortened earlier r)
accepted-shortened p before earlier (Conflict set proof ws) same h = record { within = h.within; accepts = h.accepts }
accepted-shortened p before earlier (Correction set w rs) same h =
    record {
      within = h.within;
      accepts = record {
        is_set = h.accepts.is_set;
        witnessed = h.accepts.witnessed;
        refuted = refuted-shortened p before earlier set set rs same h.accepts.refuted;
      };
    }

accepted-behind : (p : Problem) (before earlier rs : List Record) → founds before ≡ founds earlier → AllAcceptedBehind p earlier rs
    → AllAcceptedBehind p before (shortened_behind earlier rs)
accepted-behind p before earlier [] same h = tt
accepted-behind p before earlier (r ∷ rs) same h = (
  accepted-shortened p before earlier r same h.0,
  accepted-behind p (before ++ shortened earlier r ∷ []) (earlier ++ r ∷ []) rs (founds-push before earlier r same) h.1,
)

pub accepted-shorten : (p : Problem) (rs : List Record) → AllAccepted p rs → AllAccepted p (shorten rs)
accepted-shorten p rs h = accepted-behind p [] [] rs refl h

-- ---- what is short already

naming-twice : (o : Option ℕ) (r : Refutation) → naming o (naming o r) ≡ naming o r
naming-twice None r = refl
naming-twice (Some i) r = refl

refutations-twice : (before earlier : List Record) (set gs : List ℕ) (rs : List Refutation) → founds before ≡ founds earlier
    → shortened_refutations before set gs (shortened_refutations earlier set gs rs) ≡ shortened_refutations earlier set gs rs
refutations-twice before earlier set [] rs same = refl
refutations-twice before earlier set (g ∷ gs) [] same = refl
refutations-twice before earlier set (g ∷ gs) (r ∷ rs) same =
    ap₂ (λ q qs. q ∷ qs)
    (ap (λ o. naming o (naming (least_serving earlier set g) r)) (least-same set g before earlier same) ∙ naming-twice (least_serving earlier set g) r)
    (refutations-twice before earlier set gs rs same)

shortened-twice : (before earlier : List Record) (r : Record) → founds before ≡ founds earlier → shortened before (shortened earlier r) ≡ shortened earlier r
shortened-twice before earlier (Conflict set proof ws) same = refl
shortened-twice before earlier (Correction set w rs) same = ap (λ proofs. Correction set w proofs) (refutations-twice before earlier set set rs same)

behind-twice : (before earlier rs : List Record) → founds before ≡ founds earlier → shortened_behind before (shortened_behind earlier rs) ≡ shortened_behind earlier rs
behind-twice before earlier [] same = refl
behind-twice before earlier (r ∷ rs) same =
    ap₂ (λ q qs. q ∷ qs) (shortened-twice before earlier r same)
    (behind-twice (before ++ shortened earlier r ∷ []) (earlier ++ r ∷ []) rs (founds-push before earlier r same))

pub shorten-twice : (rs : List Record) → shorten (shorten rs) ≡ shorten rs
shorten-twice rs = behind-twice [] [] rs refl

-- ---- with none before

refutations-alone : (set gs : List ℕ) (rs : List Refutation) → shortened_refutations [] set gs rs ≡ rs
refutations-alone set [] rs = refl
refutations-alone set (g ∷ gs) [] = refl
refutations-alone set (g ∷ gs) (r ∷ rs) = ap (λ qs. r ∷ qs) (refutations-alone set gs rs)

-- a record stays
pub shortened-alone : (earlier : List Record) (r : Record) → earlier ≡ [] → shortened earlier r ≡ r
shortened-alone earlier r none = subst (λ e. shortened e r ≡ r) (sym none) (by r)
  where
    by : (q : Record) → shortened [] q ≡ q
    by (Conflict set proof ws) = refl
    by (Correction set w rs) = ap (λ proofs. Correction set w proofs) (refutations-alone set set rs)
