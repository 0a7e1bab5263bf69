-- The lines of a text, one at a time.
use Rattle.std.proofs.Common.{◌≡◌, ℕ, zero, suc, ◌+◌, ◌<◌, Bool, true, false, ◌&&◌, cond, eqb, List, [], ◌∷◌, map, length, get_or, drop, take, refl, sym, ◌∙◌, ap, arith, inl, inr}
use Rattle.std.proofs.lemmas.Bool.{cases_Bool, ne_eqb}
use Rattle.evidence_text.specs.Reading.{is_nothing}
use Rattle.evidence_text.specs.Lines.{is_newline, before_lines, ended_lines, unended, unended_from, words_of, lines_of}

-- no byte before this place is LF
abbrev pub NoneBefore : List ℕ → ℕ → Type 0
NoneBefore text end = (k : ℕ) → k < end → is_newline (get_or text k 0) ≡ true → ⊥

not_newline : (b : ℕ) → (is_newline b ≡ true → ⊥) → is_newline b ≡ false
not_newline b h = elim (cases_Bool (is_newline b)) [ inl is ↦ absurd (h is) | inr other ↦ other ]

-- the first line, and those behind it
pub ended_lines-first : (text : List ℕ) (end : ℕ) → end < length text → is_newline (get_or text end 0) ≡ true → NoneBefore text end
    → ended_lines text ≡ take end text ∷ ended_lines (drop (suc end) text)
ended_lines-first [] end h lf before = absurd (omega (arith, h))
ended_lines-first (b ∷ bs) zero h lf before = ap (λ t. cond t ([] ∷ ended_lines bs) (before_lines b (ended_lines bs))) lf
ended_lines-first (b ∷ bs) (suc k) h lf before =
    ap (λ t. cond t ([] ∷ ended_lines bs) (before_lines b (ended_lines bs))) (not_newline b (before 0 (omega arith)))
    ∙ ap (before_lines b) (ended_lines-first bs k (omega (arith, h)) lf (λ j lt. before (suc j) (omega (arith, lt))))

pub ended_lines-none : (text : List ℕ) → NoneBefore text (length text) → ended_lines text ≡ []
ended_lines-none [] before = refl
ended_lines-none (b ∷ bs) before =
    ap (λ t. cond t ([] ∷ ended_lines bs) (before_lines b (ended_lines bs))) (not_newline b (before 0 (omega arith)))
    ∙ ap (before_lines b) (ended_lines-none bs (λ j lt. before (suc j) (omega (arith, lt))))

-- what stands behind the last line is the same behind the first
pub unended-first : (text : List ℕ) (end : ℕ) → end < length text → is_newline (get_or text end 0) ≡ true → NoneBefore text end
    → unended text ≡ unended (drop (suc end) text)
unended-first [] end h lf before = absurd (omega (arith, h))
unended-first (b ∷ bs) zero h lf before = ap (λ t. cond t (unended bs) (unended_from (b ∷ bs) (ended_lines bs) (unended bs))) lf
unended-first (b ∷ bs) (suc k) h lf before =
    let rest : NoneBefore bs k = λ j lt. before (suc j) (omega (arith, lt)) in
    ap (λ t. cond t (unended bs) (unended_from (b ∷ bs) (ended_lines bs) (unended bs))) (not_newline b (before 0 (omega arith)))
    ∙ ap (λ ls. unended_from (b ∷ bs) ls (unended bs)) (ended_lines-first bs k (omega (arith, h)) lf rest)
    ∙ unended-first bs k (omega (arith, h)) lf rest

pub lines_of-first : (text : List ℕ) (end : ℕ) → end < length text → is_newline (get_or text end 0) ≡ true → NoneBefore text end
    → lines_of text ≡ words_of (take end text) ∷ lines_of (drop (end + 1) text)
lines_of-first text end h lf before =
    let next : suc end ≡ end + 1 = omega arith in
    ap (map words_of) (ended_lines-first text end h lf before) ∙ ap (λ n. words_of (take end text) ∷ lines_of (drop n text)) next

pub rest_of-first : (text : List ℕ) (end : ℕ) → end < length text → is_newline (get_or text end 0) ≡ true → NoneBefore text end
    → unended (drop (end + 1) text) ≡ unended text
rest_of-first text end h lf before =
    let next : end + 1 ≡ suc end = omega arith in
    ap (λ n. unended (drop n text)) next ∙ sym (unended-first text end h lf before)

pub lines_of-none : (text : List ℕ) → NoneBefore text (length text) → lines_of text ≡ []
lines_of-none text before = ap (map words_of) (ended_lines-none text before)

-- no line is left and no byte of one that doesn't end exactly where no byte is left
pub nothing_left : (text : List ℕ) → is_nothing (lines_of text) (unended text) ≡ eqb (length text) 0
nothing_left [] = refl
nothing_left (b ∷ bs) = by (is_newline b) (ended_lines bs) ∙ sym (ne_eqb (length (b ∷ bs)) 0 (λ e. absurd (omega (arith, e))))
  where
    some : {X : Type 0} (x : X) (xs : List X) → eqb (length (x ∷ xs)) 0 ≡ false
    some x xs = ne_eqb (length (x ∷ xs)) 0 (λ e. absurd (omega (arith, e)))

    by : (t : Bool) (ls : List (List ℕ)) → is_nothing (map words_of (cond t ([] ∷ ls) (before_lines b ls))) (cond t (unended bs) (unended_from (b ∷ bs) ls (unended bs))) ≡ false
    by true ls = ap (λ t. t && eqb (length (unended bs)) 0) (some (words_of []) (map words_of ls))
    by false [] = some b bs
    by false (l ∷ ls) = ap (λ t. t && eqb (length (unended bs)) 0) (some (words_of (b ∷ l)) (map words_of ls))
