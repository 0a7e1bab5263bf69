-- Conflicts under numbers of their own, from 0 on, in the order of the records: a table has the place of each.
use Rattle.std.specs.Prelude.{ℕ, ◌<◌, List, map, length, All, slice_index_or}
use Rattle.std.specs.List.{AllPairs}

-- each place is above those before it
abbrev pub Rise : List ℕ → Type 0
Rise places = AllPairs (λ a b. a < b) places

-- all numbers of the lists are below this one
abbrev pub AreBelow : ℕ → List (List ℕ) → Type 0
AreBelow bound lists = All (λ (ks : List ℕ). All (λ k. k < bound) ks) lists

-- lists of numbers as lists of places
abbrev pub placed : List ℕ → List (List ℕ) → List (List ℕ)
placed places lists = map (λ (ks : List ℕ). map (λ k. slice_index_or places k 0) ks) lists

-- each number has a place
pub record IsNumbered (places : List ℕ) (lists : List (List ℕ)) : Type 0 where
  pub rise : Rise places
  pub below : AreBelow (length places) lists
