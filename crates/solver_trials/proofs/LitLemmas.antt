-- Literals that a call names, one after the other.
use Rattle.std.proofs.Common.{◌≡◌, ℕ, zero, suc, List, [], ◌∷◌, ◌++◌, sym, ◌∙◌, ap, subst, inl, inr, arith}
use Rattle.std.specs.Prelude.{ℤ, pos, negsuc, neg_ℤ}
use Rattle.std.proofs.Math.IntN.{neg_ℤ-neg_ℤ}
use Rattle.sat_base.specs.Members.{In}
use Rattle.sat_base.specs.Literals.{IsLiteral, AreLiterals}
use Rattle.sat_base.proofs.Members.{In-append_cases}
use Rattle.cdcl_core.specs.Answers.{IsConsistent}

pub literals_push : (vars : ℕ) (lits : List ℤ) (l : ℤ) → AreLiterals vars lits → IsLiteral vars l → AreLiterals vars (lits ++ l ∷ [])
literals_push vars [] l a i = (i, tt)
literals_push vars (x ∷ xs) l a i = (a.0, literals_push vars xs l a.1 i)

-- no literal is its negation
never_own : (vars : ℕ) (l : ℤ) → IsLiteral vars l → ¬ (neg_ℤ l ≡ l)
never_own vars (pos zero) is e = absurd (let h = is.not_zero in omega (arith, h))
never_own vars (pos (suc v)) is e = cc
never_own vars (negsuc v) is e = cc

-- a literal whose negation is not there may come
pub consistent_push : (vars : ℕ) (lits : List ℤ) (l : ℤ) → IsLiteral vars l → IsConsistent lits → ¬ In (neg_ℤ l) lits → IsConsistent (lits ++ l ∷ [])
consistent_push vars lits l is old none m i j = elim (In-append_cases m lits (l ∷ []) i) [
  | inl there ↦ elim (In-append_cases (neg_ℤ m) lits (l ∷ []) j) [
    | inl both ↦ old m there both
    | inr (inl same) ↦ none (subst (λ (k : ℤ). In k lits) (sym (neg_ℤ-neg_ℤ m) ∙ ap neg_ℤ same) there)
    | inr (inr nowhere) ↦ nowhere
  ]
  | inr (inl same) ↦ elim (In-append_cases (neg_ℤ m) lits (l ∷ []) j) [
    | inl there ↦ none (subst (λ (k : ℤ). In k lits) (ap neg_ℤ same) there)
    | inr (inl also) ↦ never_own vars l is (sym (ap neg_ℤ same) ∙ also)
    | inr (inr nowhere) ↦ nowhere
  ]
  | inr (inr nowhere) ↦ absurd nowhere
]
