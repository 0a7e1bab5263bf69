-- The tokens of a text, each with its place (GCNF, in this project's profile of white space, braces and comments).
use Rattle.std.specs.Prelude.{ℕ, ◌+◌, Bool, false, not, ◌==◌, ◌&&◌, ◌||◌, List, [], ◌∷◌, length, if◌then◌else◌, None, unwrap_or}
use Rattle.std.specs.List.{slice_split, flat_map, enumerate_from, find, take_while, last_or}
use Rattle.std.specs.Option.{option_map_or}
use Rattle.token_text.specs.Kinds.{Kind, kind_of}

-- a token with its line and its byte in that line, both counted from 1
pub record Token : Type 0 where
  pub kind : Kind
  pub line : ℕ
  pub byte : ℕ

-- a place of a text: a line, and a byte in it
pub record Place : Type 0 where
  pub line : ℕ
  pub byte : ℕ

-- ---- bytes

-- LF
abbrev pub newline : ℕ
newline = 10

abbrev pub is_newline : ℕ → Bool
is_newline b = b == newline

-- blank or tab
abbrev pub is_blank : ℕ → Bool
is_blank b = (b == 32) || (b == 9)

-- white space: blank, tab, CR or LF
abbrev pub is_space : ℕ → Bool
is_space b = is_blank b || (b == 13) || is_newline b

-- `{` or `}`
abbrev pub is_brace : ℕ → Bool
is_brace b = (b == 123) || (b == 125)

-- neither white space nor a brace
abbrev pub is_plain : ℕ → Bool
is_plain b = not (is_space b) && not (is_brace b)

-- ---- the tokens of a line

-- whether a token begins at a byte: at a brace, and at a plain byte before which no plain byte stands
abbrev pub begins : ℕ → ℕ → Bool
begins before b = is_brace b || (is_plain b && not (is_plain before))

-- the bytes of the token that begins here: a brace alone, or the longest run of plain bytes
abbrev pub token_bytes : List ℕ → List ℕ
token_bytes [] = []
token_bytes (b ∷ bs) = if is_brace b then b ∷ [] else take_while is_plain (b ∷ bs)

-- that token, with its place
abbrev pub token_at : ℕ → ℕ → List ℕ → Token
token_at line byte bytes = record { kind = kind_of (token_bytes bytes); line = line; byte = byte }

-- the tokens that begin in the rest of a line, which begins at this byte and has that one before it
abbrev pub tokens_from : ℕ → ℕ → ℕ → List ℕ → List Token
tokens_from line byte before [] = []
tokens_from line byte before (b ∷ bs) =
    if begins before b then token_at line byte (b ∷ bs) ∷ tokens_from line (byte + 1) b bs
    else tokens_from line (byte + 1) b bs

-- a comment: the first byte that is neither blank nor tab is `c`
abbrev pub is_comment : List ℕ → Bool
is_comment line = option_map_or (λ b. b == 99) (find (λ b. not (is_blank b)) line) false

-- the tokens of a whole line, before which the LF of the line above stands
abbrev pub line_tokens : ℕ → List ℕ → List Token
line_tokens line bytes = if is_comment bytes then [] else tokens_from line 1 newline bytes

-- ---- the tokens of a text

-- the lines, each without the LF that ends it; what stands behind the last LF is a line too
abbrev pub lines : List ℕ → List (List ℕ)
lines text = slice_split is_newline text

-- the tokens of lines that are numbered from here on
abbrev pub lines_tokens : ℕ → List (List ℕ) → List Token
lines_tokens first lines = flat_map (λ (l : ℕ × List ℕ). line_tokens l.0 l.1) (enumerate_from first lines)

-- the tokens of a text, in order
abbrev pub tokens_of : List ℕ → List Token
tokens_of text = lines_tokens 1 (lines text)

-- the place just after the last byte
abbrev pub end_of : List ℕ → Place
end_of text = record { line = length (lines text); byte = length (unwrap_or (last_or None (lines text)) []) + 1 }
