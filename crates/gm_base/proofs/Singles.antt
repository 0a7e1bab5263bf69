-- Minimality: single removals, proper subsets, and the tests.
use Rattle.std.proofs.Common.{◌≡◌, ℕ, true, false, not, ◌&&◌, List, refl, sym, ◌∙◌, ap, eqb}
use Rattle.std.proofs.lemmas.Bool.{false≢true, false_from_ne_true, not-true, and_parts, and_from, eqb-true, eq-eqb}
use Rattle.gm_base.specs.Sets.{has, IsSubset, IsProperSubset, without, complement, all_groups}
use Rattle.gm_base.specs.Problem.{Problem, Sat}
use Rattle.gm_base.specs.Minimal.{IsConflict, IsCorrection}
use Rattle.gm_base.proofs.SetLemmas.{has-without, has-complement}
use Rattle.gm_base.proofs.SatLemmas.{Sat-subset}

-- a set that lacks a group of the other is inside the other without it
pub IsSubset-without : (small large : List ℕ) (g : ℕ) → IsSubset small large → has small g ≡ false → IsSubset small (without large g)
IsSubset-without small large g sub out h inside =
    let other : eqb h g ≡ false = false_from_ne_true (eqb h g) (λ e. false≢true (sym out ∙ ap (has small) (sym (eqb-true h g e)) ∙ inside)) in
    has-without large g h ∙ and_from (not (eqb h g)) (has large h) (ap not other) (sub h inside)

pub IsProperSubset-without : (set : List ℕ) (g : ℕ) → has set g ≡ true → IsProperSubset (without set g) set
IsProperSubset-without set g inside = (
  λ h i. (and_parts (not (eqb h g)) (has set h) (sym (has-without set g h) ∙ i)).1,
  (g, inside, has-without set g g ∙ ap (λ b. not b && has set g) (eq-eqb g g refl)),
)

-- a smaller set has a larger complement
pub IsSubset-complement : (groups : ℕ) (small large : List ℕ) → IsSubset small large → IsSubset (complement groups large) (complement groups small)
IsSubset-complement groups small large sub h i =
    let parts = and_parts (not (has large h)) (has (all_groups groups) h) (sym (has-complement groups large h) ∙ i) in
    let out : has small h ≡ false = false_from_ne_true (has small h) (λ e. false≢true (sym (not-true (has large h) parts.0) ∙ sub h e)) in
    has-complement groups small h ∙ and_from (not (has small h)) (has (all_groups groups) h) (ap not out) parts.1

pub IsConflict-from_singles : (p : Problem) (set : List ℕ) → ¬ Sat p set → ((g : ℕ) → has set g ≡ true → Sat p (without set g)) → IsConflict p set
IsConflict-from_singles p set unsat singles =
    record {
      unsat = unsat;
      minimal = λ part proper. let (g, inside, out) = proper.1 in Sat-subset p part (without set g) (IsSubset-without part set g proper.0 out) (singles g inside);
    }

pub singles-from_IsConflict : (p : Problem) (set : List ℕ) → IsConflict p set → (g : ℕ) → has set g ≡ true → Sat p (without set g)
singles-from_IsConflict p set h g inside = h.minimal (without set g) (IsProperSubset-without set g inside)

pub IsCorrection-from_singles : (p : Problem) (set : List ℕ) → Sat p (complement p.groups set)
    → ((g : ℕ) → has set g ≡ true → ¬ Sat p (complement p.groups (without set g))) → IsCorrection p set
IsCorrection-from_singles p set sat singles =
    record {
      sat = sat;
      minimal = λ part proper more.
          let (g, inside, out) = proper.1 in
          singles g inside (Sat-subset p (complement p.groups (without set g)) (complement p.groups part) (IsSubset-complement p.groups part (without set g) (IsSubset-without part set g proper.0 out)) more);
    }

pub singles-from_IsCorrection : (p : Problem) (set : List ℕ) → IsCorrection p set → (g : ℕ) → has set g ≡ true → ¬ Sat p (complement p.groups (without set g))
singles-from_IsCorrection p set h g inside = h.minimal (without set g) (IsProperSubset-without set g inside)
