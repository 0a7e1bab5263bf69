-- The tests over all proper sublists decide minimality.
use Rattle.std.proofs.Common.{◌≡◌, ℕ, ◌≤◌, true, false, not, List, [], ◌∷◌, map, refl, sym, ◌∙◌, ap, subst, inl, inr, arith, eqb}
use Rattle.std.specs.List.{list_all}
use Rattle.std.proofs.lemmas.Bool.{or_cases, or_left, or_right, false≢true, cases_Bool, false_from_ne_true, not-true, and_parts, and_from, eqb-true, eq-eqb, cond-true, cond-false, ne_eqb, or_from}
use Rattle.gm_base.specs.Sets.{has, IsSubset, IsProperSubset, without, complement, AscendsAbove, IsGroupSet, sublists, nonempty_sublists, proper_sublists}
use Rattle.gm_base.specs.Problem.{Problem}
use Rattle.gm_base.specs.Minimal.{IsConflict, IsCorrection, is_conflict, is_correction, is_sat}
use Rattle.sat_base.specs.Members.{In}
use Rattle.sat_base.proofs.Members.{In-append_left, In-append_right, In-append_cases, In-map, In-from_map, all_at, all_from}
use Rattle.gm_base.proofs.SetLemmas.{not_has-bound}
use Rattle.gm_base.proofs.SatLemmas.{Sat-from_test, test-from_Sat, unsat-from_test, test-from_unsat}
use Rattle.gm_base.proofs.Singles.{IsConflict-from_singles, IsCorrection-from_singles}

pub In-sublists-cons : (g : ℕ) (s gs : List ℕ) → In s (sublists gs) → In (g ∷ s) (nonempty_sublists (g ∷ gs))
In-sublists-cons g s gs (inl e) = inl (ap (λ t. g ∷ t) e)
In-sublists-cons g s gs (inr h) =
    In-append_left (g ∷ s) ((g ∷ []) ∷ map (λ t. g ∷ t) (nonempty_sublists gs)) (nonempty_sublists gs) (inr (In-map (λ t. g ∷ t) s (nonempty_sublists gs) h))

-- a list is one of its sublists
pub In-sublists-whole : (gs : List ℕ) → In gs (sublists gs)
In-sublists-whole [] = inl refl
In-sublists-whole (g ∷ gs) = inr (In-sublists-cons g gs gs (In-sublists-whole gs))

pub In-sublists-skip : (g : ℕ) (s gs : List ℕ) → In s (sublists gs) → In s (sublists (g ∷ gs))
In-sublists-skip g s gs (inl e) = inl e
In-sublists-skip g s gs (inr h) = inr (In-append_right s ((g ∷ []) ∷ map (λ t. g ∷ t) (nonempty_sublists gs)) (nonempty_sublists gs) h)

has-tail : (g h : ℕ) (gs : List ℕ) → has gs h ≡ true → has (g ∷ gs) h ≡ true
has-tail g h gs i = or_right (eqb g h) (has gs h) i

IsSubset-cons : (g : ℕ) (s t : List ℕ) → IsSubset s t → IsSubset (g ∷ s) (g ∷ t)
IsSubset-cons g s t sub h i =
    elim (or_cases (eqb g h) (has s h) i) [ inl here ↦ or_left (eqb g h) (has t h) here | inr later ↦ or_right (eqb g h) (has t h) (sub h later) ]

IsSubset-nil : (t : List ℕ) → IsSubset [] t
IsSubset-nil t h i = absurd (false≢true i)

-- a sublist is a subset
pub IsSubset-from_nonempty : (s gs : List ℕ) → In s (nonempty_sublists gs) → IsSubset s gs
IsSubset-from_nonempty s [] h = absurd h
IsSubset-from_nonempty s (g ∷ gs) h =
    elim (In-append_cases s ((g ∷ []) ∷ map (λ t. g ∷ t) (nonempty_sublists gs)) (nonempty_sublists gs) h) [
      | inr later ↦ λ k i. has-tail g k gs (IsSubset-from_nonempty s gs later k i)
      | inl first ↦
          elim first [
            | inl one ↦ subst (λ t. IsSubset t (g ∷ gs)) (sym one) (IsSubset-cons g [] gs (IsSubset-nil gs))
            | inr more ↦
                let (t, i, e) = In-from_map (λ t. g ∷ t) s (nonempty_sublists gs) more in
                subst (λ u. IsSubset u (g ∷ gs)) (sym e) (IsSubset-cons g t gs (IsSubset-from_nonempty t gs i))
          ]
    ]

pub IsSubset-from_sublists : (s gs : List ℕ) → In s (sublists gs) → IsSubset s gs
IsSubset-from_sublists s gs (inl e) = subst (λ t. IsSubset t gs) (sym e) (IsSubset-nil gs)
IsSubset-from_sublists s gs (inr h) = IsSubset-from_nonempty s gs h

pub IsProperSubset-from_sublists : (low : ℕ) (s gs : List ℕ) → AscendsAbove low gs → In s (proper_sublists gs) → IsProperSubset s gs
IsProperSubset-from_sublists low s [] ok h = absurd h
IsProperSubset-from_sublists low s (g ∷ gs) ok h =
    let absent : has gs g ≡ false = not_has-bound g g gs (omega arith) ok.1 in
    elim (In-append_cases s (sublists gs) (map (λ t. g ∷ t) (proper_sublists gs)) h) [
      | inl without_g ↦
          let sub = IsSubset-from_sublists s gs without_g in (
            λ k i. has-tail g k gs (sub k i),
            (g, or_left (eqb g g) (has gs g) (eq-eqb g g refl), false_from_ne_true (has s g) (λ e. false≢true (sym absent ∙ sub g e))),
          )
      | inr with_g ↦
          let (t, i, e) = In-from_map (λ t. g ∷ t) s (proper_sublists gs) with_g in
          let (sub, missing) = IsProperSubset-from_sublists g t gs ok.1 i in
          let (k, inside, out) = missing in
          let other : eqb g k ≡ false = false_from_ne_true (eqb g k) (λ same. false≢true (sym absent ∙ ap (has gs) (eqb-true g k same) ∙ inside)) in
          subst (λ u. IsProperSubset u (g ∷ gs)) (sym e)
          (IsSubset-cons g t gs sub, (k, has-tail g k gs inside, or_from (eqb g k) (has t k) other out))
    ]

without-absent : (low g : ℕ) (gs : List ℕ) → g ≤ low → AscendsAbove low gs → without gs g ≡ gs
without-absent low g [] le h = refl
without-absent low g (x ∷ xs) le h =
    let above = h.0 in
    let other : not (eqb x g) ≡ true = ap not (ne_eqb x g (λ e. absurd (omega arith))) in
    cond-true (not (eqb x g)) (x ∷ without xs g) (without xs g) other ∙ ap (λ t. x ∷ t) (without-absent x g xs (omega arith) h.1)

-- a list without one of its elements is a proper sublist
pub In-proper_sublists-without : (low g : ℕ) (gs : List ℕ) → AscendsAbove low gs → has gs g ≡ true → In (without gs g) (proper_sublists gs)
In-proper_sublists-without low g [] ok h = absurd (false≢true h)
In-proper_sublists-without low g (x ∷ xs) ok h =
    elim (cases_Bool (eqb x g)) [
      | inl same ↦
          let e : x ≡ g = eqb-true x g same in
          let gone = cond-false (not (eqb x g)) (x ∷ without xs g) (without xs g) (ap not same) ∙ without-absent x g xs (omega arith) ok.1 in
          subst (λ t. In t (proper_sublists (x ∷ xs))) (sym gone)
          (In-append_left xs (sublists xs) (map (λ t. x ∷ t) (proper_sublists xs)) (In-sublists-whole xs))
      | inr other ↦
          let later : has xs g ≡ true = elim (or_cases (eqb x g) (has xs g) h) [ inl same ↦ absurd (false≢true (sym other ∙ same)) | inr l ↦ l ] in
          let kept = cond-true (not (eqb x g)) (x ∷ without xs g) (without xs g) (ap not other) in
          subst (λ t. In t (proper_sublists (x ∷ xs))) (sym kept)
          (In-append_right (x ∷ without xs g) (sublists xs) (map (λ t. x ∷ t) (proper_sublists xs))
          (In-map (λ t. x ∷ t) (without xs g) (proper_sublists xs) (In-proper_sublists-without x g xs ok.1 later)))
    ]

pub IsConflict-from_test : (p : Problem) (set : List ℕ) → IsGroupSet set → is_conflict p set ≡ true → IsConflict p set
unfolding is_conflict
IsConflict-from_test p set ok t =
    let (unsat, each) = and_parts (not (is_sat p set)) (list_all (is_sat p) (proper_sublists set)) t in
    IsConflict-from_singles p set (unsat-from_test p set (not-true (is_sat p set) unsat))
    (λ g i. Sat-from_test p (without set g) (all_at (is_sat p) (proper_sublists set) (without set g) each (In-proper_sublists-without 0 g set ok i)))

pub test-from_IsConflict : (p : Problem) (set : List ℕ) → IsGroupSet set → IsConflict p set → is_conflict p set ≡ true
unfolding is_conflict
test-from_IsConflict p set ok h =
    and_from (not (is_sat p set)) (list_all (is_sat p) (proper_sublists set)) (ap not (test-from_unsat p set h.unsat))
    (all_from (is_sat p) (proper_sublists set) (λ part i. test-from_Sat p part (h.minimal part (IsProperSubset-from_sublists 0 part set ok i))))

pub IsCorrection-from_test : (p : Problem) (set : List ℕ) → IsGroupSet set → is_correction p set ≡ true → IsCorrection p set
unfolding is_correction
IsCorrection-from_test p set ok t =
    let unsat_without = λ (part : List ℕ). not (is_sat p (complement p.groups part)) in
    let (sat, each) = and_parts (is_sat p (complement p.groups set)) (list_all unsat_without (proper_sublists set)) t in
    IsCorrection-from_singles p set (Sat-from_test p (complement p.groups set) sat)
    (λ g i. unsat-from_test p (complement p.groups (without set g))
    (not-true (is_sat p (complement p.groups (without set g)))
    (all_at unsat_without (proper_sublists set) (without set g) each (In-proper_sublists-without 0 g set ok i))))

pub test-from_IsCorrection : (p : Problem) (set : List ℕ) → IsGroupSet set → IsCorrection p set → is_correction p set ≡ true
unfolding is_correction
test-from_IsCorrection p set ok h =
    let unsat_without = λ (part : List ℕ). not (is_sat p (complement p.groups part)) in
    and_from (is_sat p (complement p.groups set)) (list_all unsat_without (proper_sublists set)) (test-from_Sat p (complement p.groups set) h.sat)
    (all_from unsat_without (proper_sublists set)
    (λ part i. ap not (test-from_unsat p (complement p.groups part) (h.minimal part (IsProperSubset-from_sublists 0 part set ok i)))))
