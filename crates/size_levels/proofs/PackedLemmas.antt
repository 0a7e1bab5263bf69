-- A minimal set has a group of each set of the other kind, so at least one for each of those that are packed.
use Rattle.std.proofs.Common.{◌≡◌, ℕ, suc, ◌<◌, ◌≤◌, Bool, true, false, not, ◌&&◌, ◌||◌, List, [], ◌∷◌, ◌++◌, length, refl, sym, ◌∙◌, ap, subst, inl, inr, arith, eqb}
use Rattle.std.specs.List.{list_all, list_any, filter, AllByRecursion}
use Rattle.std.proofs.lemmas.Bool.{false≢true, cases_Bool, or_right, and_from, cond-true, cond-false, false_from_ne_true, eqb-true}
use Rattle.std.proofs.lemmas.List.Folds.{list_any-append}
use Rattle.sat_base.specs.Members.{In}
use Rattle.sat_base.proofs.Members.{any_from, any_at}
use Rattle.gm_base.specs.Sets.{has, IsSubset, all_groups, complement}
use Rattle.gm_base.specs.Problem.{Problem, IsProblem}
use Rattle.gm_base.specs.Minimal.{IsConflict, IsCorrection}
use Rattle.gm_base.specs.declared.kind.Kind.{Kind}
use Rattle.gm_base.specs.declared.kind.Kind.TheVariants as kinds
use Rattle.gm_base.proofs.SetLemmas.{has-head, has-complement}
use Rattle.evidence_rec.specs.declared.record.Record.{Record}
use Rattle.evidence_rec.specs.declared.record.Record.TheVariants.{Conflict, Correction}
use Rattle.evidence_rec.specs.Records.{AllAccepted, IsRight}
use Rattle.evidence_rec.specs.Held.{conflicts_in, corrections_in}
use Rattle.evidence_rec.proofs.AcceptedLemmas.{accepted-right}
use Rattle.evidence_rec.proofs.Explored.{unsat_above, sat_outside}
use Rattle.evidence_rec.proofs.BlockLemmas.{in_has}
use Rattle.size_counter.proofs.SizeLemmas.{length-filter_le}
use Rattle.size_levels.specs.Sizes.{IsOfKind, sets_of_kind, other_kind, packed_behind, packed}

-- the set has a group of the other
abbrev Meets : List ℕ → List ℕ → Type 0
Meets set other = (g : ℕ) × In g other × (has set g ≡ true)

-- if not all groups of the other are outside the set, one of them is in it
fails-meets : (set other : List ℕ) → list_all (λ g. not (has set g)) other ≡ false → Meets set other
fails-meets set [] h = absurd (false≢true (sym h))
fails-meets set (g ∷ gs) h =
    elim (cases_Bool (has set g)) [
      | inl there ↦ (g, inl refl, there)
      | inr not_there ↦
          let (k, i, e) = fails-meets set gs (sym (ap (λ b. b && list_all (λ k. not (has set k)) gs) (ap not not_there)) ∙ h) in
          (k, inr i, e)
    ]

-- each set of the other kind that accepted records are about
abbrev EachMeets : List ℕ → List (List ℕ) → Type 0
EachMeets set sets = (other : List ℕ) → In other sets → Meets set other

-- a conflict within what a correction leaves would be satisfiable
meets-corrections : (p : Problem) (set : List ℕ) (records : List Record) → AllByRecursion (IsRight p) records
    → IsSubset set (all_groups p.groups) → IsConflict p set → EachMeets set (corrections_in records)
meets-corrections p set [] right within conflict other i = absurd i
meets-corrections p set (Conflict part proof ws ∷ rs) right within conflict other i = meets-corrections p set rs right.1 within conflict other i
meets-corrections p set (Correction part w proofs ∷ rs) right within conflict other (inr i) = meets-corrections p set rs right.1 within conflict other i
meets-corrections p set (Correction part w proofs ∷ rs) right within conflict other (inl e) =
    subst (Meets set) (sym e)
    (fails-meets set part
    (false_from_ne_true (list_all (λ g. not (has set g)) part)
    (λ none. conflict.unsat (sat_outside p part set right.0.minimal within none))))

-- a conflict within what a correction leaves would make that unsatisfiable
meets-conflicts : (p : Problem) (set : List ℕ) (records : List Record) → AllByRecursion (IsRight p) records
    → IsCorrection p set → EachMeets set (conflicts_in records)
meets-conflicts p set [] right correction other i = absurd i
meets-conflicts p set (Correction part w proofs ∷ rs) right correction other i = meets-conflicts p set rs right.1 correction other i
meets-conflicts p set (Conflict part proof ws ∷ rs) right correction other (inr i) = meets-conflicts p set rs right.1 correction other i
meets-conflicts p set (Conflict part proof ws ∷ rs) right correction other (inl e) =
    subst (Meets set) (sym e)
    (fails-meets set part
    (false_from_ne_true (list_all (λ g. not (has set g)) part)
    (λ none. unsat_above p part (complement p.groups set) right.0.minimal (outside part right.0.within none) correction.sat)))
  where
    outside : (gs : List ℕ) → IsSubset gs (all_groups p.groups) → list_all (λ g. not (has set g)) gs ≡ true
        → list_all (has (complement p.groups set)) gs ≡ true
    outside [] inside none = refl
    outside (g ∷ gs) inside none =
        let parts = and_split (not (has set g)) (list_all (λ k. not (has set k)) gs) none in
        and_from (has (complement p.groups set) g) (list_all (has (complement p.groups set)) gs)
        (has-complement p.groups set g ∙ and_from (not (has set g)) (has (all_groups p.groups) g) parts.0 (inside g (has-head g gs)))
        (outside gs (λ k j. inside k (or_right (eqb g k) (has gs k) j)) parts.1)
      where
        and_split : (a b : Bool) → (a && b) ≡ true → (a ≡ true) × (b ≡ true)
        and_split true b h = (refl, h)
        and_split false b h = absurd (false≢true h)

-- fewer pass a test that is stricter at a group of the list
length-stricter : (p q : ℕ → Bool) (xs : List ℕ) (g : ℕ) → ((x : ℕ) → q x ≡ true → p x ≡ true) → In g xs → p g ≡ true → q g ≡ false
    → length (filter q xs) < length (filter p xs)
length-stricter p q [] g less i t f = absurd i
length-stricter p q (x ∷ xs) g less (inl e) t f =
    let on = subst (λ y. p y ≡ true) e t in
    let off = subst (λ y. q y ≡ false) e f in
    let large = ap length (cond-true (p x) (x ∷ filter p xs) (filter p xs) on) in
    let small = ap length (cond-false (q x) (x ∷ filter q xs) (filter q xs) off) in
    let rest = length-less p q xs less in
    omega arith
  where
    length-less : (p q : ℕ → Bool) (ys : List ℕ) → ((x : ℕ) → q x ≡ true → p x ≡ true) → length (filter q ys) ≤ length (filter p ys)
    length-less p q [] less = omega arith
    length-less p q (y ∷ ys) less =
        let rest = length-less p q ys less in
        elim (cases_Bool (q y)) [
          | inl on ↦
              let both = less y on in
              let small = ap length (cond-true (q y) (y ∷ filter q ys) (filter q ys) on) in
              let large = ap length (cond-true (p y) (y ∷ filter p ys) (filter p ys) both) in
              omega arith
          | inr off ↦
              let small = ap length (cond-false (q y) (y ∷ filter q ys) (filter q ys) off) in
              elim (cases_Bool (p y)) [
                | inl more ↦ let large = ap length (cond-true (p y) (y ∷ filter p ys) (filter p ys) more) in omega arith
                | inr same ↦ let large = ap length (cond-false (p y) (y ∷ filter p ys) (filter p ys) same) in omega arith
              ]
        ]
length-stricter p q (x ∷ xs) g less (inr i) t f =
    let rest = length-stricter p q xs g less i t f in
    elim (cases_Bool (q x)) [
      | inl on ↦
          let both = less x on in
          let small = ap length (cond-true (q x) (x ∷ filter q xs) (filter q xs) on) in
          let large = ap length (cond-true (p x) (x ∷ filter p xs) (filter p xs) both) in
          omega arith
      | inr off ↦
          let small = ap length (cond-false (q x) (x ∷ filter q xs) (filter q xs) off) in
          elim (cases_Bool (p x)) [
            | inl more ↦ let large = ap length (cond-true (p x) (x ∷ filter p xs) (filter p xs) more) in omega arith
            | inr same ↦ let large = ap length (cond-false (p x) (x ∷ filter p xs) (filter p xs) same) in omega arith
          ]
    ]

-- what the test finds in a set is a member of it
has-in : (set : List ℕ) (g : ℕ) → has set g ≡ true → In g set
has-in set g h =
    let (k, i, e) = any_from (λ k. eqb k g) set h in
    subst (λ x. In x set) (eqb-true k g e) i

-- each set that is taken has a group of the set that none before it has
packed-left : (set taken : List ℕ) (sets : List (List ℕ)) → EachMeets set sets
    → packed_behind taken sets ≤ length (filter (λ g. not (has taken g)) set)
packed-left set taken [] meets = omega arith
packed-left set taken (s ∷ ss) meets =
    elim (cases_Bool (list_any (has taken) s)) [
      | inl shares ↦
          subst (λ n. n ≤ length (filter (λ g. not (has taken g)) set)) (sym (cond-true (list_any (has taken) s) (packed_behind taken ss) (suc (packed_behind (taken ++ s) ss)) shares))
          (packed-left set taken ss (λ other i. meets other (inr i)))
      | inr apart ↦
          let (g, i, there) = meets s (inl refl) in
          let rest = packed-left set (taken ++ s) ss (λ other j. meets other (inr j)) in
          let free : has taken g ≡ false = false_from_ne_true (has taken g) (λ h. absurd (false≢true (sym apart ∙ any_at (has taken) s g i h))) in
          let now : has (taken ++ s) g ≡ true = list_any-append (λ k. eqb k g) taken s ∙ or_right (has taken g) (has s g) (in_has s g i) in
          let less = length-stricter (λ k. not (has taken k)) (λ k. not (has (taken ++ s) k)) set g (stricter s) (has-in set g there) (ap not free) (ap not now) in
          subst (λ n. n ≤ length (filter (λ k. not (has taken k)) set)) (sym (cond-false (list_any (has taken) s) (packed_behind taken ss) (suc (packed_behind (taken ++ s) ss)) apart))
          (omega arith)
    ]
  where
    stricter : (s : List ℕ) (k : ℕ) → not (has (taken ++ s) k) ≡ true → not (has taken k) ≡ true
    stricter s k h = by (has taken k) (has s k) (sym (ap not (list_any-append (λ x. eqb x k) taken s)) ∙ h)
      where
        by : (a b : Bool) → not (a || b) ≡ true → not a ≡ true
        by true b e = e
        by false b e = refl

-- before the first set is taken, all groups of the minimal set are free
pub packed-fewer : (kind : Kind) (p : Problem) (records : List Record) (set : List ℕ) → IsProblem p → AllAccepted p records
    → IsSubset set (all_groups p.groups) → IsOfKind p kind set → packed kind records ≤ length set
packed-fewer kind p records set ok accepted within is =
    let most = length-filter_le (λ g. not (has [] g)) set in
    let packed_are = packed-left set [] (sets_of_kind records (other_kind kind)) (meets kind is) in
    omega arith
  where
    right : AllByRecursion (IsRight p) records
    right = accepted-right p records ok accepted

    meets : (k : Kind) → IsOfKind p k set → EachMeets set (sets_of_kind records (other_kind k))
    meets kinds.Conflict conflict = meets-corrections p set records right within conflict
    meets kinds.Correction correction = meets-conflicts p set records right correction
