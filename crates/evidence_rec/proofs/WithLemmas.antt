-- Lemmas on sets with a group more.
use Rattle.std.proofs.Common.{◌≡◌, ◌⊎◌, ℕ, ◌<◌, Bool, true, false, ◌&&◌, ◌||◌, List, ◌∷◌, refl, sym, ◌∙◌, ap, ap₂, inl, inr, arith, eqb, ltb}
use Rattle.std.specs.List.{filter}
use Rattle.std.proofs.lemmas.Bool.{false_from_ne_true, cases_lt, lt-ltb, le-ltb, eqb-true, eq-eqb, or_cases, or_left, or_right}
use Rattle.std.proofs.lemmas.List.Folds.{list_any-append}
use Rattle.gm_base.specs.Sets.{has, with_group, IsSubset, all_groups}
use Rattle.gm_base.proofs.SetLemmas.{has-filter, all_groups-has}

abbrev mix : Bool → Bool → Bool → Bool → Bool
mix lower same higher inside = (lower && inside) || (same || (higher && inside))

or-none : (b : Bool) → (b || false) ≡ b
or-none true = refl
or-none false = refl

mixed : (g h : ℕ) (inside : Bool) → mix (ltb h g) (eqb g h) (ltb g h) inside ≡ (eqb g h || inside)
mixed g h inside =
    elim (cases_lt h g) [
      | inl below ↦
          let other : eqb g h ≡ false = false_from_ne_true (eqb g h) (λ e. let same : g ≡ h = eqb-true g h e in absurd (omega arith)) in
          let not_above : ltb g h ≡ false = le-ltb g h (omega arith) in
          ap (λ b. mix b (eqb g h) (ltb g h) inside) (lt-ltb h g below) ∙ ap₂ (λ e b. mix true e b inside) other not_above ∙ or-none inside ∙ sym (ap (λ e. e || inside) other)
      | inr past ↦
          elim (cases_lt g h) [
            | inl above ↦
                let other : eqb g h ≡ false = false_from_ne_true (eqb g h) (λ e. let same : g ≡ h = eqb-true g h e in absurd (omega arith)) in
                ap (λ b. mix b (eqb g h) (ltb g h) inside) (le-ltb h g past) ∙ ap₂ (λ e b. mix false e b inside) other (lt-ltb g h above) ∙ sym (ap (λ e. e || inside) other)
            | inr before ↦
                let same : eqb g h ≡ true = eq-eqb g h (omega arith) in
                ap (λ b. mix b (eqb g h) (ltb g h) inside) (le-ltb h g past) ∙ ap (λ e. mix false e (ltb g h) inside) same ∙ sym (ap (λ e. e || inside) same)
          ]
    ]

-- what the set with the group has
pub has-with_group : (set : List ℕ) (g h : ℕ) → has (with_group set g) h ≡ (eqb g h || has set h)
has-with_group set g h =
    list_any-append (λ k. eqb k h) (filter (λ k. ltb k g) set) (g ∷ filter (λ k. ltb g k) set)
    ∙ ap₂ (λ low high. low || (eqb g h || high)) (has-filter (λ k. ltb k g) set h) (has-filter (λ k. ltb g k) set h) ∙ mixed g h (has set h)

pub with_group-itself : (set : List ℕ) (g : ℕ) → has (with_group set g) g ≡ true
with_group-itself set g = has-with_group set g g ∙ or_left (eqb g g) (has set g) (eq-eqb g g refl)

pub IsSubset-with_group : (set : List ℕ) (g : ℕ) → IsSubset set (with_group set g)
IsSubset-with_group set g h i = has-with_group set g h ∙ or_right (eqb g h) (has set h) i

pub with_group-cases : (set : List ℕ) (g h : ℕ) → has (with_group set g) h ≡ true → (g ≡ h) ⊎ (has set h ≡ true)
with_group-cases set g h i =
    elim (or_cases (eqb g h) (has set h) (sym (has-with_group set g h) ∙ i)) [
      | inl same ↦ inl (eqb-true g h same)
      | inr before ↦ inr before
    ]

-- a group that a set of the problem's groups has more is not the background
pub with_group-positive : (groups : ℕ) (set : List ℕ) (g : ℕ) → IsSubset (with_group set g) (all_groups groups) → 0 < g
with_group-positive groups set g within = (all_groups-has groups g (within g (with_group-itself set g))).0
