-- Clauses of three literals, of which two tell the third.
use Rattle.std.specs.Prelude.{◌≡◌, ◌≢◌, ◌⊎◌, ℕ, List, [], ◌∷◌, ℤ, length, bit_xor}
use Rattle.sat_base.specs.Members.{In}
use Rattle.clause_store.specs.Links.{row_of}

-- the rows of some literals in one number
abbrev pub mix_of : List ℤ → ℕ
mix_of [] = 0
mix_of (x ∷ xs) = bit_xor (row_of x) (mix_of xs)

-- two different literals of a clause of three
pub record AreTwoOfThree (clause : List ℤ) (first second : ℤ) : Type 0 where
  pub three : length clause ≡ 3
  pub first_stands : In first clause
  pub second_stands : In second clause
  pub differ : first ≢ second

-- beside these two the clause has this literal, and no other
pub record IsLeft (clause : List ℤ) (first second lit : ℤ) : Type 0 where
  pub stands : In lit clause
  pub others : (x : ℤ) → In x clause → (x ≡ first) ⊎ (x ≡ second) ⊎ (x ≡ lit)
