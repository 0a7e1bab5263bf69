-- The frames of a journal. From byte 0 stand frames. A frame is a gate byte, the text's length in 8 bytes (most significant
-- first), the text, and then the next gate. A gate of 1 is open; every other byte is closed, and ends the journal.
use Rattle.std.specs.Prelude.{◌≡◌, ◌≢◌, ◌⊎◌, ℕ, ◌-◌, List, [], ◌∷◌, ◌++◌, length, take, drop, Some}
use Rattle.std.specs.Int.{to_be_bytes, w64}
use Rattle.gm_ports.specs.DiskState.{DiskState, Only}

unfoldable pub length_bytes : ℕ → List ℕ
length_bytes n = to_be_bytes w64 n

-- what stands behind a frame's gate
abbrev pub body : List ℕ → List ℕ
body text = length_bytes (length text) ++ text

-- open frames of these texts, in order
abbrev pub frames : List (List ℕ) → List ℕ
frames [] = []
frames (text ∷ texts) = 1 ∷ (body text ++ frames texts)

-- the bytes are open frames of these texts, and then a closed gate with anything behind it
pub record HoldsTexts (texts : List (List ℕ)) (bytes : List ℕ) : Type 0 where
  pub gate : ℕ
  pub behind : List ℕ
  pub parts : bytes ≡ frames texts ++ gate ∷ behind
  pub closed : gate ≢ 1

-- the bytes hold these texts, with one more or without it
abbrev pub HoldsWithOrWithout : List (List ℕ) → List ℕ → List ℕ → Type 0
HoldsWithOrWithout texts text bytes = HoldsTexts texts bytes ⊎ HoldsTexts (texts ++ text ∷ []) bytes

-- a disk that tells, holds these texts up to its ending gate, and has nothing pending
pub record IsSettled (disk : DiskState) (texts : List (List ℕ)) (gate : ℕ) : Type 0 where
  pub bytes : List ℕ
  pub told : disk.reads ≡ Some bytes
  pub holds : HoldsTexts texts bytes
  pub ends : gate ≡ length (frames texts)
  pub durable : Only bytes disk.may_leave

-- what an append writes behind the ending gate: a frame's body, and the next gate, closed
abbrev pub piece_of : List ℕ → List ℕ
piece_of text = body text ++ 0 ∷ []

-- the text of such a piece
abbrev pub framed : List ℕ → List ℕ
framed piece = take (length piece - 9) (drop 8 piece)
