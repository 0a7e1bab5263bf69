-- Values of variables, as literals become true and are taken back.
use Rattle.std.proofs.Common.{◌≡◌, ℕ, ◌+◌, ◌-◌, List, ◌∷◌, length, set, Bool, true, false, Option, Some, None, refl, sym, ◌∙◌, ap, subst, inl, inr, arith, zero, suc, get_or-set_same, get_or-set_other}
use Rattle.std.specs.Prelude.{ℤ, pos, negsuc, neg_ℤ, slice_index_or}
use Rattle.std.proofs.lemmas.Bool.{cases_eq}
use Rattle.sat_base.specs.Literals.{var_of, IsLiteral}
use Rattle.sat_base.specs.Units.{IsUnset, IsValue}
use Rattle.trail_book.specs.declared.value.Value.{Value}
use Rattle.trail_book.specs.declared.value.Value.TheVariants.{Unset}
use Rattle.trail_book.specs.Values.{value_by, truth_of, AreValues}

var_of-neg : (l : ℤ) → var_of (neg_ℤ l) ≡ var_of l
var_of-neg (pos zero) = refl
var_of-neg (pos (suc n)) = refl
var_of-neg (negsuc n) = refl

-- a literal of another variable changes no value
value_more : (trues : List ℤ) (lit l : ℤ) (r : Option Bool) → ¬ (var_of l ≡ var_of lit) → IsValue trues l r → IsValue (lit ∷ trues) l r
value_more trues lit l None other v = record {
  not_true = λ i. elim i [ inl same ↦ other (ap var_of same) | inr old ↦ v.not_true old ];
  not_false = λ i. elim i [ inl same ↦ other (sym (var_of-neg l) ∙ ap var_of same) | inr old ↦ v.not_false old ];
}
value_more trues lit l (Some true) other v = inr v
value_more trues lit l (Some false) other v = inr v

value_less : (trues : List ℤ) (lit l : ℤ) (r : Option Bool) → ¬ (var_of l ≡ var_of lit) → IsValue (lit ∷ trues) l r → IsValue trues l r
value_less trues lit l None other v = record { not_true = λ i. v.not_true (inr i); not_false = λ i. v.not_false (inr i) }
value_less trues lit l (Some true) other v = elim v [ inl same ↦ absurd (other (ap var_of same)) | inr old ↦ old ]
value_less trues lit l (Some false) other v = elim v [ inl same ↦ absurd (other (sym (var_of-neg l) ∙ ap var_of same)) | inr old ↦ old ]

value_new : (trues : List ℤ) (lit : ℤ) (n : ℕ) → n ≡ var_of lit → IsValue (lit ∷ trues) (pos n) (truth_of (value_by lit))
value_new trues (pos m) n same = inl (ap pos same)
value_new trues (negsuc m) n same = inl (ap (λ (k : ℕ). neg_ℤ (pos k)) same)

value_gone : (trues : List ℤ) (lit : ℤ) (n : ℕ) → n ≡ var_of lit → IsUnset trues lit → IsUnset trues (pos n)
value_gone trues (pos m) n same u = subst (λ (k : ℕ). IsUnset trues (pos k)) (sym same) u
value_gone trues (negsuc m) n same u =
    subst (λ (k : ℕ). IsUnset trues (pos k)) (sym same) (record { not_true = λ i. u.not_false i; not_false = λ i. u.not_true i })

pub values_push : (vars : ℕ) (values : List Value) (trues : List ℤ) (lit : ℤ) → IsLiteral vars lit → length values ≡ vars → AreValues vars values trues
    → AreValues vars (set values (var_of lit - 1) (value_by lit)) (lit ∷ trues)
values_push vars values trues lit is_lit len are = λ index h. elim (cases_eq index (var_of lit - 1)) [
  | inl same ↦
      let here : slice_index_or (set values (var_of lit - 1) (value_by lit)) index Unset ≡ value_by lit =
      ap (λ (k : ℕ). slice_index_or (set values (var_of lit - 1) (value_by lit)) k Unset) same
      ∙ get_or-set_same values (var_of lit - 1) (value_by lit) Unset (omega (arith, len, is_lit.not_zero, is_lit.in_range)) in
      subst (λ (v : Value). IsValue (lit ∷ trues) (pos (index + 1)) (truth_of v)) (sym here)
      (value_new trues lit (index + 1) (omega (arith, same, is_lit.not_zero)))
  | inr other ↦
      subst (λ (v : Value). IsValue (lit ∷ trues) (pos (index + 1)) (truth_of v))
      (sym (get_or-set_other values (var_of lit - 1) index (value_by lit) Unset other))
      (value_more trues lit (pos (index + 1)) (truth_of (slice_index_or values index Unset)) (λ same. other (omega (arith, same))) (are index h))
]

pub values_undo : (vars : ℕ) (values : List Value) (trues : List ℤ) (lit : ℤ) → IsLiteral vars lit → length values ≡ vars → IsUnset trues lit
    → AreValues vars values (lit ∷ trues) → AreValues vars (set values (var_of lit - 1) Unset) trues
values_undo vars values trues lit is_lit len unset are = λ index h. elim (cases_eq index (var_of lit - 1)) [
  | inl same ↦
      let here : slice_index_or (set values (var_of lit - 1) Unset) index Unset ≡ Unset =
      ap (λ (k : ℕ). slice_index_or (set values (var_of lit - 1) Unset) k Unset) same
      ∙ get_or-set_same values (var_of lit - 1) Unset Unset (omega (arith, len, is_lit.not_zero, is_lit.in_range)) in
      subst (λ (v : Value). IsValue trues (pos (index + 1)) (truth_of v)) (sym here)
      (value_gone trues lit (index + 1) (omega (arith, same, is_lit.not_zero)) unset)
  | inr other ↦
      subst (λ (v : Value). IsValue trues (pos (index + 1)) (truth_of v))
      (sym (get_or-set_other values (var_of lit - 1) index Unset Unset other))
      (value_less trues lit (pos (index + 1)) (truth_of (slice_index_or values index Unset)) (λ same. other (omega (arith, same))) (are index h))
]
