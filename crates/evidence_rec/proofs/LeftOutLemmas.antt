-- Which literals say that a group is left out, by the number of their variable.
use Rattle.std.proofs.Common.{◌≡◌, ◌≢◌, ℕ, zero, suc, ◌+◌, ◌-◌, ◌<◌, ◌≤◌, Bool, true, false, not, ◌&&◌, ◌||◌, List, [], ◌∷◌, Option, Some, refl, sym, ◌∙◌, ap, ap₂, inl, inr, arith, eqb}
use Rattle.std.specs.Prelude.{ℤ, pos, negsuc, neg_ℤ}
use Rattle.std.specs.Ordering.{int_eq}
use Rattle.std.specs.List.{list_any, range_with_len}
use Rattle.std.proofs.lemmas.Bool.{eq-eqb, ne_eqb, cases_eq, or_left, or_right}
use Rattle.sat_base.specs.Literals.{var_of}
use Rattle.gm_base.specs.Sets.{has, all_groups, without}
use Rattle.gm_base.specs.Problem.{Problem}
use Rattle.gm_base.specs.Evidence.{left_out}
use Rattle.gm_base.proofs.SetLemmas.{has-without, has-complement}
use Rattle.lrat_check.proofs.MarkLemmas.{int_eq-same, int_eq-from, int_eq-other}
use Rattle.evidence_rec.specs.Basis.{refuted_set}
use Rattle.evidence_rec.specs.Refusals.{leaves_out}

any-none : (test : ℕ → Bool) (gs : List ℕ) → ((g : ℕ) → test g ≡ false) → list_any test gs ≡ false
any-none test [] none = refl
any-none test (g ∷ gs) none = ap₂ (λ a b. a || b) (none g) (any-none test gs none)

any-same : (test other : ℕ → Bool) (gs : List ℕ) → ((g : ℕ) → test g ≡ other g) → list_any test gs ≡ list_any other gs
any-same test other [] same = refl
any-same test other (g ∷ gs) same = ap₂ (λ a b. a || b) (same g) (any-same test other gs same)

-- the variable of such a literal is the group's selector
var_of-left_out : (p : Problem) (g : ℕ) → var_of (left_out p g) ≡ p.vars + g
var_of-left_out p g = by (p.vars + g)
  where
    by : (n : ℕ) → var_of (neg_ℤ (pos n)) ≡ n
    by zero = refl
    by (suc n) = refl

left_out-pos : (p : Problem) (g n : ℕ) → 0 < n → left_out p g ≢ pos n
left_out-pos p g n some = by (p.vars + g)
  where
    by : (m : ℕ) → neg_ℤ (pos m) ≢ pos n
    by zero same = let is : 0 ≡ n = ap var_of same in omega arith
    by (suc m) same = cc

left_out-negsuc : (p : Problem) (g k : ℕ) → p.vars + g ≡ suc k → left_out p g ≡ negsuc k
left_out-negsuc p g k is = ap (λ n. neg_ℤ (pos n)) is

-- a positive literal says nothing of the kind
pub leaves_out-positive : (p : Problem) (set : List ℕ) (l : ℤ) → 0 < var_of l → l ≡ pos (var_of l) → leaves_out p set l ≡ false
leaves_out-positive p set l some is =
    any-none (λ g. int_eq (left_out p g) l) set (λ g. int_eq-other (left_out p g) l (λ same. left_out-pos p g (var_of l) some (same ∙ is)))

-- nor one over a variable of the problem
pub leaves_out-below : (p : Problem) (set : List ℕ) (l : ℤ) → var_of l < p.vars → leaves_out p set l ≡ false
leaves_out-below p set l low =
    any-none (λ g. int_eq (left_out p g) l) set
    (λ g. int_eq-other (left_out p g) l (λ same. let is : p.vars + g ≡ var_of l = sym (var_of-left_out p g) ∙ ap var_of same in absurd (omega arith)))

pub leaves_out-has : (p : Problem) (set : List ℕ) (l : ℤ) → 0 < var_of l → l ≢ pos (var_of l) → p.vars ≤ var_of l
    → leaves_out p set l ≡ has set (var_of l - p.vars)
leaves_out-has p set (pos n) some other high = absurd (other refl)
leaves_out-has p set (negsuc k) some other high =
    any-same (λ g. int_eq (left_out p g) (negsuc k)) (λ g. eqb g (suc k - p.vars)) set
    (λ g. by g (int_eq (left_out p g) (negsuc k)) refl)
  where
    by : (g : ℕ) (b : Bool) → int_eq (left_out p g) (negsuc k) ≡ b → int_eq (left_out p g) (negsuc k) ≡ eqb g (suc k - p.vars)
    by g true is =
        let same : p.vars + g ≡ suc k = sym (var_of-left_out p g) ∙ ap var_of (int_eq-from (left_out p g) (negsuc k) is) in
        is ∙ sym (eq-eqb g (suc k - p.vars) (omega arith))
    by g false is =
        is
        ∙ sym (ne_eqb g (suc k - p.vars)
        (λ same. let whole : p.vars + g ≡ suc k = omega arith in absurd (differ (sym is ∙ int_eq-same (left_out p g) (negsuc k) (left_out-negsuc p g k whole)))))
      where
        differ : false ≡ true → ⊥
        differ h = cc

has-range : (from count g : ℕ) → from ≤ g → g < from + count → has (range_with_len from count) g ≡ true
has-range from zero g low high = absurd (omega arith)
has-range from (suc n) g low high = elim (cases_eq from g) [
  | inl same ↦ or_left (eqb from g) (has (range_with_len (from + 1) n) g) (eq-eqb from g same)
  | inr other ↦ or_right (eqb from g) (has (range_with_len (from + 1) n) g) (has-range (from + 1) n g (omega arith) (omega arith))
]

not_has-range : (from count g : ℕ) → ((from ≤ g) × (g < from + count) → ⊥) → has (range_with_len from count) g ≡ false
not_has-range from zero g out = refl
not_has-range from (suc n) g out =
    ap₂ (λ a b. a || b)
    (ne_eqb from g (λ same. out (omega arith, omega arith)))
    (not_has-range (from + 1) n g (λ both. let low = both.0 in let high = both.1 in out (omega arith, omega arith)))

-- of the groups outside a set together with one of its own: that one, the others that are not in the set, and no number
-- beyond the groups
module _ (groups : ℕ) (set : List ℕ) (o : Option ℕ) (own g : ℕ) (is : o ≡ Some own) where
  named : has (refuted_set groups set o) g ≡ (not (not (eqb g own) && has set g) && has (all_groups groups) g)
  named =
      ap (λ (p : Option ℕ). has (refuted_set groups set p) g) is
      ∙ has-complement groups (without set own) g
      ∙ ap (λ (b : Bool). not b && has (all_groups groups) g) (has-without set own g)

  pub refuted-own : 0 < g → g ≤ groups → g ≡ own → has (refuted_set groups set o) g ≡ true
  refuted-own low high same =
      named ∙ ap₂ (λ (b e : Bool). not (not e && has set g) && b) (has-range 1 groups g (omega arith) (omega arith)) (eq-eqb g own same)

  pub refuted-other : 0 < g → g ≤ groups → g ≢ own → has (refuted_set groups set o) g ≡ not (has set g)
  refuted-other low high other =
      named
      ∙ ap₂ (λ (b e : Bool). not (not e && has set g) && b) (has-range 1 groups g (omega arith) (omega arith)) (ne_eqb g own other)
      ∙ and_true (not (has set g))
    where
      and_true : (b : Bool) → (b && true) ≡ b
      and_true true = refl
      and_true false = refl

  pub refuted-beyond : ((0 < g) × (g ≤ groups) → ⊥) → has (refuted_set groups set o) g ≡ false
  refuted-beyond out =
      named
      ∙ ap (λ (b : Bool). not (not (eqb g own) && has set g) && b)
      (not_has-range 1 groups g (λ both. let low = both.0 in let high = both.1 in out (omega arith, omega arith)))
      ∙ and_false (not (not (eqb g own) && has set g))
    where
      and_false : (b : Bool) → (b && false) ≡ false
      and_false true = refl
      and_false false = refl
