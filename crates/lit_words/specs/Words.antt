-- A set of literals as two words, one of its positive and one of its negative literals, in which variable 1 has the lowest
-- bit.
use Rattle.std.specs.Prelude.{◌≡◌, ◌≢◌, ◌↔◌, zero, suc, List, ℤ, pos, negsuc, neg_ℤ}
use Rattle.std.specs.Int.{bit_at}
use Rattle.sat_base.specs.Members.{In}
use Rattle.lit_words.specs.declared.lit_words.LitWords.{LitWords}

-- the literal is in the set
abbrev pub Has : LitWords → ℤ → Type 0
Has words (pos zero) = ⊥
Has words (pos (suc i)) = bit_at words.positive i ≡ 1
Has words (negsuc i) = bit_at words.negative i ≡ 1

-- the set has these literals and no others
abbrev pub AreWordsOf : LitWords → List ℤ → Type 0
AreWordsOf words lits = (x : ℤ) → Has words x ↔ In x lits

-- a literal of the set, other than this one, whose negation is not among the true ones
pub record IsOpen (words trues : LitWords) (other lit : ℤ) : Type 0 where
  pub has : Has words lit
  pub differs : lit ≢ other
  pub not_false : ¬ Has trues (neg_ℤ lit)
