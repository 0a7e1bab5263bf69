-- Numbers without gaps for some of a log's steps: the inputs, which come first in the log, keep their ids, and the steps that
-- were taken are numbered on from there in their order.
use Rattle.std.specs.Prelude.{ℕ, ◌+◌, ◌<◌, ◌==◌, ◌^◌, List, [], ◌∷◌, map, length, nat_le, if◌then◌else◌, All}
use Rattle.sat_base.specs.Members.{In}
use Rattle.sat_base.specs.Derivation.{Step}

-- the numbers rise
abbrev pub Ascends : List ℕ → Type 0
Ascends [] = Unit {0}
Ascends (x ∷ xs) = ((y : ℕ) → In y xs → x < y) × Ascends xs

-- the place of a number in a list, from 0, or the length of a list that lacks it
abbrev pub place_in : List ℕ → ℕ → ℕ
place_in [] n = 0
place_in (x ∷ xs) n = if x == n then 0 else place_in xs n + 1

-- how many inputs there are, and the ids of the steps that were taken
pub record Numbering : Type 0 where
  pub inputs : ℕ
  pub ids : List ℕ

abbrev pub number_by : Numbering → ℕ → ℕ
number_by by id = if nat_le id by.inputs then id else by.inputs + 1 + place_in by.ids id

-- a step of the log under the new numbers
abbrev pub renumbered : Numbering → Step → Step
renumbered by s = record { id = number_by by s.id; lits = s.lits; hints = map (number_by by) s.hints }

-- ascending ids, as a log has them
pub record IsNumbering (by : Numbering) : Type 0 where
  pub ascends : Ascends by.ids
  pub small : All (λ n. n < 2 ^ 32) by.ids
  pub few : length by.ids < 2 ^ 32
  pub inputs : by.inputs < 2 ^ 32
