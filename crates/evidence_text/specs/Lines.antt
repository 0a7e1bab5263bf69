-- The lines of a text, and the words of a line.
use Rattle.std.specs.Prelude.{ℕ, Bool, List, [], ◌∷◌, map, ◌==◌, if◌then◌else◌}
use Rattle.std.specs.List.{slice_split}
use Rattle.evidence_text.specs.Text.{Line}

-- LF
abbrev pub is_newline : ℕ → Bool
is_newline b = b == 10

abbrev pub is_blank : ℕ → Bool
is_blank b = b == 32

-- a byte before the first of these lines, if there is one: a line that doesn't end is none
abbrev pub before_lines : ℕ → List (List ℕ) → List (List ℕ)
before_lines b [] = []
before_lines b (l ∷ ls) = (b ∷ l) ∷ ls

-- the lines that end with LF, each without it
abbrev pub ended_lines : List ℕ → List (List ℕ)
ended_lines [] = []
ended_lines (b ∷ bs) = if is_newline b then [] ∷ ended_lines bs else before_lines b (ended_lines bs)

-- what stands behind the last LF, by what the lines behind these bytes are and what stands behind them
abbrev pub unended_from : List ℕ → List (List ℕ) → List ℕ → List ℕ
unended_from bytes [] behind = bytes
unended_from bytes (l ∷ ls) behind = behind

-- what stands behind the last LF: a line that doesn't end
abbrev pub unended : List ℕ → List ℕ
unended [] = []
unended (b ∷ bs) = if is_newline b then unended bs else unended_from (b ∷ bs) (ended_lines bs) (unended bs)

-- the words of a line: what stands before, between and behind its blanks
abbrev pub words_of : List ℕ → Line
words_of line = slice_split is_blank line

-- the lines that end, by their words
abbrev pub lines_of : List ℕ → List Line
lines_of text = map words_of (ended_lines text)
