-- What is left at a cursor in a text: the rest of its line, and the lines below.
use Rattle.std.specs.Prelude.{◌≡◌, ◌≢◌, ℕ, false, ◌+◌, ◌-◌, ◌≤◌, List, [], ◌∷◌, ◌++◌, length, drop, if◌then◌else◌}
use Rattle.token_text.specs.Tokens.{Token, Place, newline, is_comment, is_space, tokens_from, lines, lines_tokens}
use Rattle.token_text.specs.Left.{Left}
use Rattle.token_text.specs.declared.cursor.Before.{Before}
use Rattle.token_text.specs.declared.cursor.Before.TheVariants.{Blanks, Others, Comment}
use Rattle.token_text.specs.declared.cursor.Cursor.{Cursor}

-- the tokens of the rest of a line, from this byte on
abbrev pub line_left : Before → ℕ → ℕ → List ℕ → List Token
line_left Blanks line byte bytes = if is_comment bytes then [] else tokens_from line byte newline bytes
line_left Others line byte bytes = tokens_from line byte newline bytes
line_left Comment line byte bytes = []

-- the tokens of the rest of a line and of the lines below
abbrev pub tokens_in : Before → ℕ → ℕ → List (List ℕ) → List Token
tokens_in before line byte [] = []
tokens_in before line byte (l ∷ ls) = line_left before line byte l ++ lines_tokens (line + 1) ls

-- the end's place, from there
abbrev pub end_in : ℕ → ℕ → List (List ℕ) → Place
end_in line byte [] = record { line = line; byte = byte }
end_in line byte (l ∷ []) = record { line = line; byte = byte + length l }
end_in line byte (l ∷ m ∷ ms) = end_in (line + 1) 1 (m ∷ ms)

abbrev pub left_in : Before → ℕ → ℕ → List (List ℕ) → Left
left_in before line byte ls = record { tokens = tokens_in before line byte ls; end = end_in line byte ls }

-- what is left from a byte on, where these bytes follow
abbrev pub left_from : Before → ℕ → ℕ → List ℕ → Left
left_from before line byte bytes = left_in before line byte (lines bytes)

-- what is left at a cursor
abbrev pub left_at : List ℕ → Cursor → Left
left_at text c = left_from c.before c.line (c.at - c.line_start + 1) (drop c.at text)

-- a cursor's place lies within the text, behind the start of its line
pub record IsWithin (text : List ℕ) (c : Cursor) : Type 0 where
  pub at : c.at ≤ length text
  pub start : c.line_start ≤ c.at
  pub line : c.line ≤ c.at + 1

-- passing over a byte of the line leaves what was left
abbrev pub Passes : Before → ℕ → Before → Type 0
Passes before b next =
    (line byte : ℕ) (bs : List ℕ) → left_from before line byte (b ∷ bs) ≡ left_from next line (byte + 1) bs

-- a token begins at a byte: it is no white space, stands in no comment and begins none
pub record BeginsToken (before : Before) (b : ℕ) : Type 0 where
  pub solid : is_space b ≡ false
  pub outside : before ≢ Comment
  pub no_comment : before ≡ Blanks → b ≢ 99
