-- Places as bits of words, 64 to a word: those of a word from its highest bit down, so that its lowest bit is its greatest
-- place.
use Rattle.std.specs.Prelude.{◌≡◌, ℕ, ◌+◌, ◌-◌, ◌*◌, ◌/◌, ◌%◌, ◌^◌, ◌<◌, ◌≤◌, Bool, ◌==◌, List, length, filter, slice_index_or}
use Rattle.std.specs.Int.{bit_at}
use Rattle.std.specs.List.{range_with_len}

-- the bit of a place is set
abbrev pub is_pending : List ℕ → ℕ → Bool
is_pending words place = bit_at (slice_index_or words (place / 64) 0) (63 - place % 64) == 1

-- the places whose bits are set
abbrev pub pending : List ℕ → List ℕ
pending words = filter (is_pending words) (range_with_len 0 (64 * length words))

-- where there are words, the last one is not 0
abbrev pub EndsInBit : List ℕ → Type 0
EndsInBit words = (at : ℕ) → at + 1 ≡ length words → 0 < slice_index_or words at 0

pub record AreCut (words : List ℕ) : Type 0 where
  pub ends : EndsInBit words
  -- a place has 64 bits
  pub few : length words ≤ 2 ^ 58

-- the same words, but for zeros at the end
abbrev pub AreSame : List ℕ → List ℕ → Type 0
AreSame old new = (at : ℕ) → slice_index_or new at 0 ≡ slice_index_or old at 0
