-- A text is its lines, one after another, and what stands behind them.
use Rattle.std.proofs.Common.{◌≡◌, ℕ, List, [], ◌∷◌, ◌++◌, map, length, refl, sym, ◌∙◌, ap, inl, inr, arith, append_assoc}
use Rattle.std.specs.Prelude.{codes}
use Rattle.std.specs.List.{onto_first}
use Rattle.std.proofs.lemmas.Bool.{cases_Bool, cond-true, cond-false, eqb-true}
use Rattle.std.proofs.lemmas.List.Concat.{flat_map-cons}
use Rattle.std.proofs.lemmas.List.Splits.{length-slice_split}
use Rattle.evidence_text.specs.Text.{Word, Line, spaced, line_text, text_of}
use Rattle.evidence_text.specs.Lines.{is_newline, is_blank, before_lines, ended_lines, unended_from, unended, words_of, lines_of}

-- a word before the first of these words, behind a blank
spaced-cons : (w : Word) (ws : List Word) → spaced (w ∷ ws) ≡ 32 ∷ (w ++ spaced ws)
spaced-cons w ws = flat_map-cons (λ (v : Word). codes " " ++ v) w ws

-- words that begin behind a blank
behind-blank : (ws : List Word) → (0 ≡ length ws → ⊥) → line_text ([] ∷ ws) ≡ 32 ∷ line_text ws
behind-blank [] some = absurd (some refl)
behind-blank (w ∷ ws) some =
    ap (λ (bs : List ℕ). bs ++ codes "\n") (spaced-cons w ws)
    ∙ ap (λ (bs : List ℕ). 32 ∷ bs) (append_assoc w (spaced ws) (codes "\n"))

-- a byte of the first word
in-word : (b : ℕ) (ws : List Word) → (0 ≡ length ws → ⊥) → line_text (onto_first b ws) ≡ b ∷ line_text ws
in-word b [] some = absurd (some refl)
in-word b (w ∷ ws) some = refl

some-words : (l : List ℕ) → 0 ≡ length (words_of l) → ⊥
some-words l none = let count = length-slice_split is_blank l in omega arith

-- the words of a line write it
pub line-from_words : (l : List ℕ) → line_text (words_of l) ≡ l ++ codes "\n"
line-from_words [] = refl
line-from_words (b ∷ bs) =
    elim (cases_Bool (is_blank b)) [
      | inl blank ↦
          ap line_text (cond-true (is_blank b) ([] ∷ words_of bs) (onto_first b (words_of bs)) blank)
          ∙ behind-blank (words_of bs) (some-words bs) ∙ ap (λ (c : ℕ). c ∷ line_text (words_of bs)) (sym (eqb-true b 32 blank))
          ∙ ap (λ (cs : List ℕ). b ∷ cs) (line-from_words bs)
      | inr other ↦
          ap line_text (cond-false (is_blank b) ([] ∷ words_of bs) (onto_first b (words_of bs)) other)
          ∙ in-word b (words_of bs) (some-words bs) ∙ ap (λ (cs : List ℕ). b ∷ cs) (line-from_words bs)
    ]

text-cons : (l : Line) (ls : List Line) → text_of (l ∷ ls) ≡ line_text l ++ text_of ls
text-cons l ls = flat_map-cons line_text l ls

-- the lines of a text, and what stands behind them, write it
pub text-from_lines : (t : List ℕ) → text_of (lines_of t) ++ unended t ≡ t
text-from_lines [] = refl
text-from_lines (b ∷ bs) =
    elim (cases_Bool (is_newline b)) [
      | inl newline ↦
          ap (λ (ls : List (List ℕ)). text_of (map words_of ls) ++ unended (b ∷ bs))
          (cond-true (is_newline b) ([] ∷ ended_lines bs) (before_lines b (ended_lines bs)) newline)
          ∙ ap (λ (r : List ℕ). text_of (words_of [] ∷ lines_of bs) ++ r)
          (cond-true (is_newline b) (unended bs) (unended_from (b ∷ bs) (ended_lines bs) (unended bs)) newline)
          ∙ ap (λ (cs : List ℕ). cs ++ unended bs) (text-cons (words_of []) (lines_of bs))
          ∙ ap (λ (c : ℕ). c ∷ (text_of (lines_of bs) ++ unended bs)) (sym (eqb-true b 10 newline))
          ∙ ap (λ (cs : List ℕ). b ∷ cs) (text-from_lines bs)
      | inr other ↦
          ap (λ (ls : List (List ℕ)). text_of (map words_of ls) ++ unended (b ∷ bs))
          (cond-false (is_newline b) ([] ∷ ended_lines bs) (before_lines b (ended_lines bs)) other)
          ∙ ap (λ (r : List ℕ). text_of (map words_of (before_lines b (ended_lines bs))) ++ r)
          (cond-false (is_newline b) (unended bs) (unended_from (b ∷ bs) (ended_lines bs) (unended bs)) other)
          ∙ before b bs (ended_lines bs) (unended bs) (text-from_lines bs)
    ]
  where
    before : (b : ℕ) (bs : List ℕ) (ls : List (List ℕ)) (rest : List ℕ) → text_of (map words_of ls) ++ rest ≡ bs
        → text_of (map words_of (before_lines b ls)) ++ unended_from (b ∷ bs) ls rest ≡ b ∷ bs
    before b bs [] rest h = refl
    before b bs (l ∷ ls) rest h =
        ap (λ (cs : List ℕ). cs ++ rest)
        (text-cons (words_of (b ∷ l)) (map words_of ls) ∙ ap (λ (cs : List ℕ). cs ++ text_of (map words_of ls)) (line-from_words (b ∷ l)))
        ∙ ap (λ (cs : List ℕ). b ∷ cs)
        (sym (ap (λ (cs : List ℕ). cs ++ rest)
        (text-cons (words_of l) (map words_of ls) ∙ ap (λ (cs : List ℕ). cs ++ text_of (map words_of ls)) (line-from_words l))) ∙ h)
