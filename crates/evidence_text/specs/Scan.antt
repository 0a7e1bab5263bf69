-- How a word is measured and valued.
use Rattle.std.specs.Prelude.{◌≡◌, ℕ, Bool, true, ◌+◌, ◌*◌, ◌^◌, not, ◌==◌, ◌&&◌, ◌||◌, List, drop, nat_lt, Option, Some, None, if◌then◌else◌}
use Rattle.std.specs.List.{take_while}
use Rattle.std.specs.Char.{is_ascii_digit, digit_value}
use Rattle.evidence_text.specs.Text.{Word}
use Rattle.evidence_text.specs.Lines.{is_blank}

-- a byte that is in a word
abbrev pub is_inner : ℕ → Bool
is_inner b = not (is_blank b)

-- the bytes from a place on, up to a blank
abbrev pub word_from : List ℕ → ℕ → Word
word_from line from = take_while is_inner (drop from line)

-- the byte writes this digit
abbrev pub IsDigit : ℕ → ℕ → Type 0
IsDigit b digit = (is_ascii_digit b ≡ true) × (digit_value b ≡ digit)

-- the value with one digit more; none where it is none, or above a `u64`, or the byte is no digit
abbrev pub digit_onto : Option ℕ → ℕ → Option ℕ
digit_onto None b = None
digit_onto (Some v) b =
    if is_ascii_digit b && nat_lt (v * 10 + digit_value b) (2 ^ 64) then Some (v * 10 + digit_value b) else None

-- a word of this length that begins with this byte is not empty, and has no zero before others
abbrev pub form_of : ℕ → ℕ → Bool
form_of len first = nat_lt 0 len && (not (first == 48) || (len == 1))
