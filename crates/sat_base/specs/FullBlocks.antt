-- Words in blocks of 64.
use Rattle.std.specs.Prelude.{◌≡◌, ℕ, ◌+◌, ◌<◌, ◌≤◌, List, [], length, slice_index_or}

-- each block has 64 words, but for the last one, which may have fewer
pub record AreFull (blocks : List (List ℕ)) : Type 0 where
  pub full : (k : ℕ) → k + 1 < length blocks → length (slice_index_or blocks k []) ≡ 64
  pub most : (k : ℕ) → length (slice_index_or blocks k []) ≤ 64
