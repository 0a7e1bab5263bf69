-- A set of groups by a table.
use Rattle.std.specs.Prelude.{◌≡◌, ℕ, ◌<◌, Bool, List, length, slice_index_or}
use Rattle.gm_base.specs.Sets.{has}

-- the place of each group tells whether it is in the set
abbrev pub IsTableOf : List ℕ → List Bool → Type 0
IsTableOf set table = (g : ℕ) (d : Bool) → g < length table → slice_index_or table g d ≡ has set g
