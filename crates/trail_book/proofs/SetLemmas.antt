-- The true literals as a set, when one comes and when it goes.
use Rattle.std.proofs.Common.{◌≡◌, ◌≢◌, ◌↔◌, ◌⊎◌, ◌∷◌, ℤ, List, inl, inr, subst}
use Rattle.sat_base.specs.Members.{In}
use Rattle.sat_base.specs.Units.{IsUnset}
use Rattle.lit_words.specs.Words.{Has, AreWordsOf}
use Rattle.lit_words.specs.declared.lit_words.LitWords.{LitWords}

pub words_with : (old new : LitWords) (trues : List ℤ) (lit : ℤ) → ((x : ℤ) → Has new x ↔ ((x ≡ lit) ⊎ Has old x)) → AreWordsOf old trues → AreWordsOf new (lit ∷ trues)
words_with old new trues lit more of x = (
  λ has. elim ((more x).0 has) [ inl same ↦ inl same | inr before ↦ inr ((of x).0 before) ],
  λ i. (more x).1 (elim i [ inl same ↦ inl same | inr before ↦ inr ((of x).1 before) ]),
)

-- it stood there once
pub words_without : (old new : LitWords) (trues : List ℤ) (lit : ℤ) → IsUnset trues lit → ((x : ℤ) → Has new x ↔ ((x ≢ lit) × Has old x)) → AreWordsOf old (lit ∷ trues) → AreWordsOf new trues
words_without old new trues lit once less of x = (
  λ has. elim ((of x).0 ((less x).0 has).1) [ inl same ↦ absurd (((less x).0 has).0 same) | inr stays ↦ stays ],
  λ i. (less x).1 (λ same. once.not_true (subst (λ (y : ℤ). In y trues) same i), (of x).1 (inr i)),
)
