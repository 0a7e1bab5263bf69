-- The literals of clauses as sets, in the order of the clauses.
use Rattle.std.specs.Prelude.{◌≡◌, ◌⊎◌, ℕ, ℤ, List, [], ◌∷◌, ◌++◌, length}
use Rattle.lit_words.specs.Words.{AreWordsOf}
use Rattle.lit_words.specs.declared.lit_words.LitWords.{LitWords}

-- the sets are those of the first clauses
abbrev pub AreSets : List LitWords → List (List ℤ) → Type 0
AreSets [] clauses = Unit {0}
AreSets (words ∷ rest) [] = ⊥
AreSets (words ∷ rest) (lits ∷ clauses) = AreWordsOf words lits × AreSets rest clauses

-- the same sets, or one more behind so many: that of these literals
abbrev pub KeepsUp : List LitWords → List LitWords → ℕ → List ℤ → Type 0
KeepsUp old new count lits = (new ≡ old) ⊎ ((words : LitWords) × (new ≡ old ++ words ∷ []) × (length old ≡ count) × AreWordsOf words lits)
