-- The run of plain bytes at a place, and what the code finds there.
use Rattle.std.specs.Prelude.{◌≡◌, ◌⊎◌, ◌≤◌, ℕ, Bool, List, [], ◌∷◌, drop, ℤ, pos, neg_ℤ, nat_lt, if◌then◌else◌, Option, Some, None}
use Rattle.std.specs.List.{take_while}
use Rattle.token_text.specs.Kinds.{Kind, Word, Number, OpenBrace, CloseBrace, greatest, kind_of}
use Rattle.token_text.specs.Tokens.{is_plain, token_bytes}
use Rattle.token_text.specs.declared.answer.Found.{Found}
use Rattle.token_text.specs.declared.answer.Found.TheVariants as found

-- the longest run of plain bytes from a place on
abbrev pub run_at : List ℕ → ℕ → List ℕ
run_at text at = take_while is_plain (drop at text)

-- two values that are told alike: the same, or both at least the greatest
abbrev pub AreToldAlike : ℕ → ℕ → Type 0
AreToldAlike m n = (m ≡ n) ⊎ ((greatest ≤ m) × (greatest ≤ n))

-- the number that digits of this value write behind `-` or behind no sign; behind `-` zeros write none
abbrev pub signed : Bool → ℕ → Option ℤ
signed negative value = if negative then (if nat_lt 0 value then Some (neg_ℤ (pos value)) else None) else Some (pos value)

-- the kind of what is found, none at the end
abbrev pub kind_found : Found → Option Kind
kind_found (found.Word word) = Some (Word word.now)
kind_found (found.Number number) = Some (Number number)
kind_found found.OpenBrace = Some OpenBrace
kind_found found.CloseBrace = Some CloseBrace
kind_found found.End = None

-- the kind of the token that begins here, none at the end
abbrev pub first_kind : List ℕ → Option Kind
first_kind [] = None
first_kind (b ∷ bs) = Some (kind_of (token_bytes (b ∷ bs)))
