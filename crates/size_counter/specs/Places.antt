-- Where a clause of a counter stands.
use Rattle.std.specs.Prelude.{◌≡◌, ℕ, ◌+◌, ◌*◌, ◌-◌, ◌<◌, ◌≤◌, min, true, false, nat_le, if◌then◌else◌}
use Rattle.size_counter.specs.declared.place.Place.{Place}

-- how many clauses so many rows have, where a row has columns up to its own number and up to `wide`
abbrev pub rows_len : ℕ → ℕ → ℕ
rows_len wide rows = if nat_le rows wide then rows * rows else wide * wide + 2 * wide * (rows - wide)

-- the place of the clause with this number: a row that is there and one of its columns, and of the column's one or two
-- clauses the one it is
pub record IsPlace (bound rows at : ℕ) (place : Place) : Type 0 where
  pub row : place.rows < rows
  pub column : place.columns ≤ place.rows
  pub within : place.columns ≤ bound
  pub carries : place.carries ≡ true → (place.columns < place.rows) × (at ≡ rows_len (bound + 1) place.rows + 2 * place.columns)
  pub raises : place.carries ≡ false → at ≡ rows_len (bound + 1) place.rows + place.columns + min (place.columns + 1) place.rows
