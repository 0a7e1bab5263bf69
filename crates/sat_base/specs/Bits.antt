-- Truth values as bits of words, 64 to a word, the lowest bit first.
use Rattle.std.specs.Prelude.{ℕ, ◌*◌, ◌/◌, ◌%◌, ◌^◌, ◌≤◌, Bool, true, false, ◌==◌, List, map, length, slice_index, slice_set, bit_and, bit_or}
use Rattle.std.specs.Int.{bit_at, bit_not, w64}
use Rattle.std.specs.List.{range_with_len}

-- the truth value at a place
abbrev pub truth_at : List ℕ → ℕ → Bool
truth_at words at = bit_at (slice_index words (at / 64)) (at % 64) == 1

-- so many truth values, from the first on
abbrev pub truths : ℕ → List ℕ → List Bool
truths len words = map (truth_at words) (range_with_len 0 len)

-- the word with one bit set or cleared
abbrev pub with_bit : ℕ → ℕ → Bool → ℕ
with_bit word k true = bit_or word (1 * 2 ^ k % 2 ^ 64)
with_bit word k false = bit_and word (bit_not w64 (1 * 2 ^ k % 2 ^ 64))

-- the words with one truth value written
abbrev pub with_truth : List ℕ → ℕ → Bool → List ℕ
with_truth words at value = slice_set words (at / 64) (with_bit (slice_index words (at / 64)) (at % 64) value)

-- there are words for so many truth values
abbrev pub HasWords : ℕ → List ℕ → Type 0
HasWords len words = len ≤ 64 * length words
