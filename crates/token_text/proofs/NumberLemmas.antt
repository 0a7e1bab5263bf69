-- What a run of plain bytes writes.
use Rattle.std.proofs.Common.{◌≡◌, ℕ, ◌+◌, ◌-◌, ◌<◌, Bool, true, false, not, ◌&&◌, cond, eqb, List, [], ◌∷◌, length, get_or, drop, take, refl, sym, ◌∙◌, ap, subst, arith, Option, Some, None}
use Rattle.std.specs.Prelude.{ℤ, pos, neg_ℤ, nat_lt, codes}
use Rattle.std.specs.Option.{option_map_or}
use Rattle.std.proofs.lemmas.Bool.{and_left, and_parts, not-true, or_parts, cond-false, eqb-true}
use Rattle.std.proofs.lemmas.List.Folds.{length-prefix_len}
use Rattle.std.specs.Str.{all_ascii_digits, bytes_eq}
use mir.Val.{bool_byte}
use Rattle.token_text.specs.Kinds.{Word, Number, OpenBrace, CloseBrace, kind_of, number_of, value_of}
use Rattle.token_text.specs.Tokens.{is_brace, is_plain, is_space}
use Rattle.token_text.specs.Run.{run_at, signed}
use Rattle.token_text.proofs.RunLemmas.{run_at-plain}

-- a plain byte is no brace
pub no_brace : (b : ℕ) → is_plain b ≡ true → is_brace b ≡ false
no_brace b plain = not-true (is_brace b) (and_parts (not (is_space b)) (not (is_brace b)) plain).1

-- a run of plain bytes is a number or a word
pub kind_of-plain : (b : ℕ) (bs : List ℕ) → is_plain b ≡ true → kind_of (b ∷ bs) ≡ option_map_or Number (number_of (b ∷ bs)) (Word (b ∷ bs))
kind_of-plain b bs plain =
    let (no_open, no_close) = or_parts (eqb b 123) (eqb b 125) (no_brace b plain) in
    let other = option_map_or Number (number_of (b ∷ bs)) (Word (b ∷ bs)) in
    cond-false (bytes_eq (b ∷ bs) (codes "{")) OpenBrace (cond (bytes_eq (b ∷ bs) (codes "}")) CloseBrace other)
    (and_left (eqb b 123) (bytes_eq bs []) no_open)
    ∙ cond-false (bytes_eq (b ∷ bs) (codes "}")) CloseBrace other (and_left (eqb b 125) (bytes_eq bs []) no_close)

-- the number behind `-`
number_of-minus : (bs : List ℕ) → number_of (45 ∷ bs) ≡ cond (all_ascii_digits bs) (signed true (value_of bs)) None
number_of-minus bs = by (all_ascii_digits bs)
  where
    by : (t : Bool)
        → cond (t && nat_lt 0 (value_of bs)) (Some (neg_ℤ (pos (value_of bs)))) None
        ≡ cond t (cond (nat_lt 0 (value_of bs)) (Some (neg_ℤ (pos (value_of bs)))) None) None
    by true = refl
    by false = refl

-- the number behind no sign
number_of-other : (b : ℕ) (bs : List ℕ) → eqb b 45 ≡ false
    → number_of (b ∷ bs) ≡ cond (all_ascii_digits (b ∷ bs)) (signed false (value_of (b ∷ bs))) None
number_of-other b bs other =
    ap (λ (n : Option ℤ). cond (all_ascii_digits (b ∷ bs)) (Some (pos (value_of (b ∷ bs)))) n)
    (cond-false ((eqb b 45 && all_ascii_digits bs) && nat_lt 0 (value_of bs)) (Some (neg_ℤ (pos (value_of bs)))) None
    (and_left (eqb b 45 && all_ascii_digits bs) (nat_lt 0 (value_of bs)) (and_left (eqb b 45) (all_ascii_digits bs) other)))

-- what the run at a place writes, by the digits behind its sign
pub record IsWritten (text : List ℕ) (at start : ℕ) (negative : Bool) : Type 0 where
  pub number :
      number_of (run_at text at) ≡ cond (all_ascii_digits (run_at text start)) (signed negative (value_of (run_at text start))) None
  pub end : start + length (run_at text start) ≡ at + length (run_at text at)
  pub kind : kind_of (run_at text at) ≡ option_map_or Number (number_of (run_at text at)) (Word (run_at text at))

kind_of-run : (text : List ℕ) (at : ℕ) → at < length text → is_plain (get_or text at 0) ≡ true
    → kind_of (run_at text at) ≡ option_map_or Number (number_of (run_at text at)) (Word (run_at text at))
kind_of-run text at h plain =
    let P : List ℕ → Type 0 = λ r. kind_of r ≡ option_map_or Number (number_of r) (Word r) in
    subst P (sym (run_at-plain text at h plain)) (kind_of-plain (get_or text at 0) (run_at text (at + 1)) plain)

pub is_written : (text : List ℕ) (at start : ℕ) (negative : Bool) → at < length text → is_plain (get_or text at 0) ≡ true
    → negative ≡ eqb (get_or text at 0) 45 → start ≡ at + bool_byte negative → IsWritten text at start negative
is_written text at start true h plain sign from =
    let minus : get_or text at 0 ≡ 45 = eqb-true (get_or text at 0) 45 (sym sign) in
    let next : start ≡ at + 1 = from in
    let run : run_at text at ≡ 45 ∷ run_at text start =
    run_at-plain text at h plain ∙ ap (λ b. b ∷ run_at text (at + 1)) minus ∙ ap (λ s. 45 ∷ run_at text s) (sym next) in
    let long : length (run_at text at) ≡ length (45 ∷ run_at text start) = ap length run in
    record {
      number = ap number_of run ∙ number_of-minus (run_at text start);
      end = omega (arith, long, next);
      kind = kind_of-run text at h plain;
    }
is_written text at start false h plain sign from =
    let next : start ≡ at = omega (arith, from) in
    let run : run_at text start ≡ get_or text at 0 ∷ run_at text (at + 1) = ap (run_at text) next ∙ run_at-plain text at h plain in
    let same : run_at text at ≡ run_at text start = ap (run_at text) (sym next) in
    let P : List ℕ → Type 0 = λ r. number_of r ≡ cond (all_ascii_digits r) (signed false (value_of r)) None in
    record {
      number = ap number_of same ∙ subst P (sym run) (number_of-other (get_or text at 0) (run_at text (at + 1)) (sym sign));
      end = omega (arith, next, ap length same);
      kind = kind_of-run text at h plain;
    }

-- the bytes up to the run's end are the run
pub take-run : (text : List ℕ) (at : ℕ) → take (length (run_at text at)) (drop at text) ≡ run_at text at
take-run text at = ap (λ n. take n (drop at text)) (length-prefix_len is_plain (drop at text))

-- the number that the code makes of a run is the number that it writes
number_told : (text : List ℕ) (at start value : ℕ) (negative digits : Bool) → IsWritten text at start negative
    → digits ≡ all_ascii_digits (run_at text start) → (digits ≡ true → value ≡ value_of (run_at text start))
    → cond digits (signed negative value) None ≡ number_of (run_at text at)
number_told text at start value negative digits written test told = by digits refl ∙ sym written.number
  where
    by : (t : Bool) → digits ≡ t
        → cond digits (signed negative value) None ≡ cond (all_ascii_digits (run_at text start)) (signed negative (value_of (run_at text start))) None
    by true e =
        ap (λ v. cond digits (signed negative v) None) (told e)
        ∙ ap (λ t. cond t (signed negative (value_of (run_at text start))) None) test
    by false e =
        ap (λ t. cond t (signed negative value) None) e
        ∙ ap (λ t. cond t (signed negative (value_of (run_at text start))) None) (sym e ∙ test)

-- where the code finds no number, what it gives is the word
pub finds_word : (text : List ℕ) (at start end value : ℕ) (negative digits : Bool) (found : Option ℤ)
    → IsWritten text at start negative → digits ≡ all_ascii_digits (run_at text start)
    → (digits ≡ true → value ≡ value_of (run_at text start)) → found ≡ cond digits (signed negative value) None → found ≡ None
    → end ≡ start + length (run_at text start)
    → Some (Word (take (end - at) (drop at text))) ≡ Some (kind_of (run_at text at))
finds_word text at start end value negative digits found written test told is none ends =
    let number : number_of (run_at text at) ≡ None =
    sym (number_told text at start value negative digits written test told) ∙ sym is ∙ none in
    let long : end - at ≡ length (run_at text at) = omega (arith, written.end, ends) in
    let word : take (end - at) (drop at text) ≡ run_at text at =
    ap (λ n. take n (drop at text)) long ∙ take-run text at in
    ap (λ w. Some (Word w)) word
    ∙ sym (ap (λ k. Some k) (written.kind ∙ ap (λ (o : Option ℤ). option_map_or Number o (Word (run_at text at))) number))

-- where the code finds a number, it is the one that the run writes
pub finds_number : (text : List ℕ) (at start value : ℕ) (negative digits : Bool) (found : Option ℤ) (number : ℤ)
    → IsWritten text at start negative → digits ≡ all_ascii_digits (run_at text start)
    → (digits ≡ true → value ≡ value_of (run_at text start)) → found ≡ cond digits (signed negative value) None → found ≡ Some number
    → Some (Number number) ≡ Some (kind_of (run_at text at))
finds_number text at start value negative digits found number written test told is some =
    let told_number : number_of (run_at text at) ≡ Some number =
    sym (number_told text at start value negative digits written test told) ∙ sym is ∙ some in
    sym (ap (λ k. Some k) (written.kind ∙ ap (λ (o : Option ℤ). option_map_or Number o (Word (run_at text at))) told_number))
