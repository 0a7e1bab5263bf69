-- Lists of places as bits of words, 32 places to a word: bit i of the block `at` says that the place 32·at + i is listed.
use Rattle.std.specs.Prelude.{◌≡◌, ◌≢◌, ℕ, ◌-◌, ◌*◌, ◌<◌, List, length, slice_index_or}
use Rattle.std.specs.List.{AllPairs, filter, flat_map, range_with_len}
use Rattle.evidence_rec.specs.declared.places.Block.{Block}
use Rattle.evidence_rec.specs.Columns.{is_set}

-- of so many places from this one on, those whose bits of the word are set
unfoldable pub bit_places : ℕ → ℕ → ℕ → List ℕ
bit_places count from bits = filter (λ at. is_set bits (at - from)) (range_with_len from count)

-- the places of a block, and those of blocks
abbrev pub block_places : Block → List ℕ
block_places b = bit_places 32 (32 * b.at) b.bits

abbrev pub places_of : List Block → List ℕ
places_of blocks = flat_map block_places blocks

-- each block has higher places than those before it
abbrev pub Ascend : List Block → Type 0
Ascend blocks = AllPairs (λ a b. a.at < b.at) blocks

-- the block of this number stands here
pub record IsAt (blocks : List Block) (at here : ℕ) : Type 0 where
  pub within : here < length blocks
  pub same : (d : Block) → (slice_index_or blocks here d).at ≡ at

-- none has this number
abbrev pub HasNone : List Block → ℕ → Type 0
HasNone blocks at = (i : ℕ) (d : Block) → i < length blocks → (slice_index_or blocks i d).at ≢ at
