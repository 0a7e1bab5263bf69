-- Worked journals, computed from the definitions. The wanted bytes were worked out by hand.
use Rattle.std.specs.Prelude.{◌≡◌, List, ℕ, [], ◌∷◌, ◌++◌, Some, codes}
use Rattle.std.proofs.Common.{refl}
use Rattle.disk_frames.specs.Frames.{frames, length_bytes}
use Rattle.disk_frames.specs.Salvage.{EndsAt}

-- a text of ten bytes, two lines of a record
abbrev pub ten_bytes : List ℕ
ten_bytes = codes "m 0\nw 0 0\n"

-- it stands in 19 bytes behind which the closed gate comes
pub one_text : frames (ten_bytes ∷ []) ++ 0 ∷ [] ≡ 1 ∷ 0 ∷ 0 ∷ 0 ∷ 0 ∷ 0 ∷ 0 ∷ 0 ∷ 10 ∷ ten_bytes ++ 0 ∷ []
unfolding length_bytes
one_text = refl

-- with no text there is a closed gate alone
pub no_text : frames [] ++ 0 ∷ [] ≡ 0 ∷ []
no_text = refl

-- it ends at byte 19
pub one_text_ends : EndsAt (1 ∷ 0 ∷ 0 ∷ 0 ∷ 0 ∷ 0 ∷ 0 ∷ 0 ∷ 10 ∷ ten_bytes ++ 0 ∷ []) (ten_bytes ∷ []) 19 (Some 0)
unfolding length_bytes
one_text_ends = record { rest = 0 ∷ []; parts = refl; gate_is = refl; last_is = refl; closed = λ e. cc; empty = λ e. cc }

-- a file that begins with another byte than 1 ends at once, whatever stands behind it
pub other_file_ends : EndsAt (7 ∷ 1 ∷ 1 ∷ []) [] 0 (Some 7)
other_file_ends = record { rest = 7 ∷ 1 ∷ 1 ∷ []; parts = refl; gate_is = refl; last_is = refl; closed = λ e. cc; empty = λ e. cc }
