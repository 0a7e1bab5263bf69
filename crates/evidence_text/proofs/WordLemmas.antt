-- The words of a line, one at a time.
use Rattle.std.proofs.Common.{◌≡◌, ◌≢◌, ℕ, suc, ◌+◌, ◌<◌, Bool, true, false, not, cond, eqb, List, [], ◌∷◌, length, get_or, drop, refl, sym, ◌∙◌, ap, arith, inl, inr, drop-cons, add-one, Option, Ok, Err}
use Rattle.std.proofs.lemmas.Bool.{cases_Bool, ne_eqb, eqb-false}
use Rattle.std.proofs.lemmas.List.Splits.{slice_split-cons_yes, slice_split-cons_no}
use Rattle.std.proofs.lemmas.List.Sums.{take_while-cons, prefix_len_is}
use Rattle.std.proofs.lemmas.List.{get_or-take, get_or-drop}
use Rattle.std.proofs.lemmas.List.Folds.{length-prefix_len}
use Rattle.std.proofs.Math.Seq.{drop-length}
use Rattle.std.specs.List.{take_while, prefix_len, fold, onto_first}
use Rattle.std.specs.Str.{bytes_eq}
use Rattle.lrat_check.specs.declared.why.Why.TheVariants.{BadLine}
use Rattle.evidence_text.specs.Lines.{is_blank, words_of}
use Rattle.evidence_text.specs.Scan.{is_inner, word_from, digit_onto}
use Rattle.evidence_text.specs.Reading.{is_over, letter_of, behind, word_at}
use Rattle.evidence_text.specs.Cursors.{words_behind}

-- the first word, and those behind it
pub words_of-first : (bs : List ℕ) → words_of bs ≡ take_while is_inner bs ∷ words_behind (drop (length (take_while is_inner bs)) bs)
words_of-first [] = refl
words_of-first (b ∷ bs) =
    elim (cases_Bool (is_blank b)) [
      | inl blank ↦
          let none : take_while is_inner (b ∷ bs) ≡ [] =
          take_while-cons is_inner b bs ∙ ap (λ t. cond (not t) (b ∷ take_while is_inner bs) []) blank in
          slice_split-cons_yes is_blank b bs blank
          ∙ sym (ap (λ (w : List ℕ). w ∷ words_behind (drop (length w) (b ∷ bs))) none)
      | inr inner ↦
          let more : take_while is_inner (b ∷ bs) ≡ b ∷ take_while is_inner bs =
          take_while-cons is_inner b bs ∙ ap (λ t. cond (not t) (b ∷ take_while is_inner bs) []) inner in
          slice_split-cons_no is_blank b bs inner ∙ ap (onto_first b) (words_of-first bs)
          ∙ sym (ap (λ (w : List ℕ). w ∷ words_behind (drop (length w) (b ∷ bs))) more)
    ]

-- the next word behind a blank, and those behind it
pub words_behind-first : (rest : List ℕ) → 0 < length rest
    → words_behind rest ≡ word_from rest 1 ∷ words_behind (drop (1 + length (word_from rest 1)) rest)
words_behind-first [] h = absurd (omega arith)
words_behind-first (b ∷ bs) h =
    let one : 1 + length (take_while is_inner bs) ≡ suc (length (take_while is_inner bs)) = omega arith in
    words_of-first bs ∙ sym (ap (λ n. take_while is_inner bs ∷ words_behind (drop n (b ∷ bs))) one)

-- a line is over where no byte is left
pub is_over-rest : (rest : List ℕ) → 0 < length rest → is_over (words_behind rest) ≡ false
is_over-rest rest h = ap is_over (words_behind-first rest h)

-- the text from a place on
drop-at : (text : List ℕ) (at : ℕ) → at < length text → drop at text ≡ get_or text at 0 ∷ drop (at + 1) text
drop-at text at h = rw (add-one, drop-cons text at 0)

-- a byte of a word belongs to it
pub word_from-inner : (line : List ℕ) (at : ℕ) → at < length line → is_blank (get_or line at 0) ≡ false
    → word_from line at ≡ get_or line at 0 ∷ word_from line (at + 1)
word_from-inner line at h inner =
    ap (take_while is_inner) (drop-at line at h)
    ∙ take_while-cons is_inner (get_or line at 0) (drop (at + 1) line)
    ∙ ap (λ t. cond (not t) (get_or line at 0 ∷ take_while is_inner (drop (at + 1) line)) []) inner

-- a blank ends it
pub word_from-blank : (line : List ℕ) (at : ℕ) → at < length line → is_blank (get_or line at 0) ≡ true → word_from line at ≡ []
word_from-blank line at h blank =
    ap (take_while is_inner) (drop-at line at h)
    ∙ take_while-cons is_inner (get_or line at 0) (drop (at + 1) line)
    ∙ ap (λ t. cond (not t) (get_or line at 0 ∷ take_while is_inner (drop (at + 1) line)) []) blank

-- and so does the end of the line
pub word_from-end : (line : List ℕ) → word_from line (length line) ≡ []
word_from-end line = ap (take_while is_inner) (drop-length line)

-- the first byte of a word
pub word_from-head : (line : List ℕ) (from : ℕ) → 0 < length (word_from line from) → get_or (word_from line from) 0 0 ≡ get_or line from 0
word_from-head line from h =
    get_or-take (prefix_len is_inner (drop from line)) (drop from line) 0 0 (omega (arith, length-prefix_len is_inner (drop from line), h))
    ∙ get_or-drop from line 0 0 ∙ ap (λ n. get_or line n 0) (omega arith)

-- one byte further
pub value-step : (line : List ℕ) (from at : ℕ) (before value next : Option ℕ) → at < length line → get_or line at 0 ≢ 32
    → next ≡ digit_onto value (get_or line at 0) → fold digit_onto value (word_from line at) ≡ fold digit_onto before (word_from line from)
    → fold digit_onto next (word_from line (at + 1)) ≡ fold digit_onto before (word_from line from)
value-step line from at before value next h inner is so_far =
    ap (λ (o : Option ℕ). fold digit_onto o (word_from line (at + 1))) is
    ∙ sym (ap (fold digit_onto value) (word_from-inner line at h (ne_eqb _ _ inner))) ∙ so_far

pub place-step : (line : List ℕ) (from at : ℕ) → at < length line → get_or line at 0 ≢ 32
    → at + length (word_from line at) ≡ from + length (word_from line from)
    → at + 1 + length (word_from line (at + 1)) ≡ from + length (word_from line from)
place-step line from at h inner so_far = omega (arith, ap length (word_from-inner line at h (ne_eqb _ _ inner)), so_far)

-- the first word of a line, and its letter
pub letter_of-first : (bs w : List ℕ) (first : ℕ) → w ≡ take_while is_inner bs → length w ≡ 1 → first ≡ get_or w 0 0 → first ≡ letter_of (words_of bs)
letter_of-first bs [] first is one e = absurd (omega (arith, one))
letter_of-first bs (b ∷ []) first is one e =
    e ∙ sym (ap letter_of (words_of-first bs) ∙ ap (λ (v : List ℕ). letter_of (v ∷ words_behind (drop (length (take_while is_inner bs)) bs))) (sym is))
letter_of-first bs (b ∷ c ∷ cs) first is one e = absurd (omega (arith, one))

pub letter_of-none : (bs w : List ℕ) → w ≡ take_while is_inner bs → length w ≢ 1 → 0 ≡ letter_of (words_of bs)
letter_of-none bs [] is other =
    sym (ap letter_of (words_of-first bs) ∙ ap (λ (v : List ℕ). letter_of (v ∷ words_behind (drop (length (take_while is_inner bs)) bs))) (sym is))
letter_of-none bs (b ∷ []) is other = absurd (other refl)
letter_of-none bs (b ∷ c ∷ cs) is other =
    sym (ap letter_of (words_of-first bs) ∙ ap (λ (v : List ℕ). letter_of (v ∷ words_behind (drop (length (take_while is_inner bs)) bs))) (sym is))

pub behind-first : (bs rest : List ℕ) → rest ≡ drop (length (take_while is_inner bs)) bs → words_behind rest ≡ behind (words_of bs)
behind-first bs rest is = ap words_behind is ∙ sym (ap behind (words_of-first bs))

-- the place of the first blank is how long the word is
pub word-ends : (bs : List ℕ) (end : ℕ) → end < length bs → is_blank (get_or bs end 0) ≡ true → ((k : ℕ) → k < end → is_blank (get_or bs k 0) ≡ true → ⊥)
    → prefix_len is_inner bs ≡ end
word-ends bs end h blank before =
    prefix_len_is is_inner bs end 0 (omega arith) (λ k lt. ap not (inner k lt)) (λ lt. ap not blank)
  where
    inner : (k : ℕ) → k < end → is_blank (get_or bs k 0) ≡ false
    inner k lt = elim (cases_Bool (is_blank (get_or bs k 0))) [ inl yes_it ↦ absurd (before k lt yes_it) | inr no_it ↦ no_it ]

pub word-unended : (bs : List ℕ) → ((k : ℕ) → k < length bs → is_blank (get_or bs k 0) ≡ true → ⊥) → prefix_len is_inner bs ≡ length bs
word-unended bs before =
    prefix_len_is is_inner bs (length bs) 0 (omega arith) (λ k lt. ap not (inner k lt)) (λ lt. absurd (omega (arith, lt)))
  where
    inner : (k : ℕ) → k < length bs → is_blank (get_or bs k 0) ≡ false
    inner k lt = elim (cases_Bool (is_blank (get_or bs k 0))) [ inl yes_it ↦ absurd (before k lt yes_it) | inr no_it ↦ no_it ]

-- the next word is this one, or not
pub word-read : (rest front word after due : List ℕ) → 0 < length rest → front ≡ drop 1 rest → word ≡ take_while is_inner front
    → after ≡ drop (length (take_while is_inner front)) front
    → word_at due (words_behind rest) ≡ cond (bytes_eq word due) (Ok (words_behind after)) (Err BadLine)
word-read [] front word after due h is first behind = absurd (omega (arith, h))
word-read (b ∷ bs) front word after due h is first behind =
    ap (λ f. word_at due (words_of f)) (sym is)
    ∙ ap (word_at due) (words_of-first front)
    ∙ ap (λ (w : List ℕ). cond (bytes_eq w due) (Ok (words_behind (drop (length (take_while is_inner front)) front))) (Err BadLine)) (sym first)
    ∙ ap (λ (t : List ℕ). cond (bytes_eq word due) (Ok (words_behind t)) (Err BadLine)) (sym behind)

-- a line that is not empty has a byte
pub some_byte : (rest : List ℕ) (empty : Bool) → empty ≡ eqb (length rest) 0 → empty ≡ false → 0 < length rest
some_byte rest empty is other = let h : length rest ≢ 0 = eqb-false _ _ (sym is ∙ other) in omega (arith, h)
