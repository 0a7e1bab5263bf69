-- The run of plain bytes at a place, byte by byte, and the value of its digits.
use Rattle.std.proofs.Common.{◌≡◌, ℕ, ◌+◌, ◌*◌, ◌<◌, ◌≤◌, Bool, true, false, ◌&&◌, cond, List, [], ◌∷◌, length, get_or, drop, min, sym, ◌∙◌, ap, inl, inr, arith, drop-cons, add-one}
use Rattle.std.proofs.lemmas.Grind.{common_steps}
use Rattle.std.proofs.lemmas.Bool.{and_right, false≢true}
use Rattle.std.proofs.lemmas.Bool.Decides.{nat_tests}
use Rattle.std.proofs.lemmas.List.Sums.{take_while-cons}
use Rattle.std.proofs.Math.Seq.{drop-length}
use Rattle.std.specs.List.{take_while}
use Rattle.std.specs.Char.{is_ascii_digit, digit_value}
use Rattle.std.specs.Str.{all_ascii_digits}
use Rattle.std.specs.Str.Parse.{digits_value_after}
use Rattle.token_text.specs.Kinds.{greatest, value_of}
use Rattle.token_text.specs.Tokens.{is_plain}
use Rattle.token_text.specs.Run.{AreToldAlike, run_at}

-- the text from a place on
pub drop-at : (text : List ℕ) (at : ℕ) → at < length text → drop at text ≡ get_or text at 0 ∷ drop (at + 1) text
drop-at text at h = rw (add-one, drop-cons text at 0)

-- a plain byte belongs to the run
pub run_at-plain : (text : List ℕ) (at : ℕ) → at < length text → is_plain (get_or text at 0) ≡ true
    → run_at text at ≡ get_or text at 0 ∷ run_at text (at + 1)
run_at-plain text at h plain =
    ap (take_while is_plain) (drop-at text at h)
    ∙ take_while-cons is_plain (get_or text at 0) (drop (at + 1) text)
    ∙ ap (λ t. cond t (get_or text at 0 ∷ take_while is_plain (drop (at + 1) text)) []) plain

-- another byte ends it
pub run_at-other : (text : List ℕ) (at : ℕ) → at < length text → is_plain (get_or text at 0) ≡ false → run_at text at ≡ []
run_at-other text at h other =
    ap (take_while is_plain) (drop-at text at h)
    ∙ take_while-cons is_plain (get_or text at 0) (drop (at + 1) text)
    ∙ ap (λ t. cond t (get_or text at 0 ∷ take_while is_plain (drop (at + 1) text)) []) other

-- and so does the end
pub run_at-end : (text : List ℕ) → run_at text (length text) ≡ []
run_at-end text = ap (take_while is_plain) (drop-length text)

-- digits are plain
pub is_plain-digit : (b : ℕ) → is_ascii_digit b ≡ true → is_plain b ≡ true
is_plain-digit b h = grind (arith, common_steps, nat_tests)

-- more digits make no lesser value
digits_value_after-ge : (n : ℕ) (ds : List ℕ) → n ≤ digits_value_after 10 n ds
digits_value_after-ge n [] = omega arith
digits_value_after-ge n (d ∷ ds) = omega (arith, digits_value_after-ge (n * 10 + digit_value d) ds)

-- values that are told alike are told alike with more digits
pub told_alike : (m n : ℕ) (ds : List ℕ) → AreToldAlike m n → min (digits_value_after 10 m ds) greatest ≡ min (digits_value_after 10 n ds) greatest
told_alike m n ds (inl same) = ap (λ k. min (digits_value_after 10 k ds) greatest) same
told_alike m n ds (inr great) = omega (arith, digits_value_after-ge m ds, digits_value_after-ge n ds)

-- what was read and what is left of the run make the whole
pub record IsRead (text : List ℕ) (start at end : ℕ) (digits : Bool) (value : ℕ) : Type 0 where
  pub all : end ≡ length text
  pub place : at + length (run_at text at) ≡ start + length (run_at text start)
  pub test : (digits && all_ascii_digits (run_at text at)) ≡ all_ascii_digits (run_at text start)
  pub told : digits ≡ true → min (digits_value_after 10 value (run_at text at)) greatest ≡ value_of (run_at text start)

-- one digit further
pub read-digit : (text : List ℕ) (start at end : ℕ) (digits : Bool) (value next : ℕ) → IsRead text start at end digits value
    → at < length text → is_ascii_digit (get_or text at 0) ≡ true → AreToldAlike next (value * 10 + digit_value (get_or text at 0))
    → IsRead text start (at + 1) end digits next
read-digit text start at end digits value next read h digit alike =
    let b = get_or text at 0 in
    let rest = run_at text (at + 1) in
    let run : run_at text at ≡ b ∷ rest = run_at-plain text at h (is_plain-digit b digit) in
    let long : length (run_at text at) ≡ length (b ∷ rest) = ap length run in
    let tests : (is_ascii_digit b && all_ascii_digits rest) ≡ all_ascii_digits rest = ap (λ t. t && all_ascii_digits rest) digit in
    record {
      all = read.all;
      place = omega (arith, long, read.place);
      test =
          ap (λ t. digits && t) (sym (ap all_ascii_digits run ∙ tests)) ∙ read.test;
      told = λ d.
          told_alike next (value * 10 + digit_value b) rest alike
          ∙ sym (ap (λ r. min (digits_value_after 10 value r) greatest) run) ∙ read.told d;
    }

-- one other plain byte further: the run is no number
pub read-plain : (text : List ℕ) (start at end : ℕ) (digits : Bool) (value : ℕ) → IsRead text start at end digits value
    → at < length text → is_plain (get_or text at 0) ≡ true → is_ascii_digit (get_or text at 0) ≡ false
    → IsRead text start (at + 1) end false value
read-plain text start at end digits value read h plain other =
    let b = get_or text at 0 in
    let rest = run_at text (at + 1) in
    let run : run_at text at ≡ b ∷ rest = run_at-plain text at h plain in
    let long : length (run_at text at) ≡ length (b ∷ rest) = ap length run in
    let none : all_ascii_digits (run_at text at) ≡ false =
    ap all_ascii_digits run ∙ ap (λ t. t && all_ascii_digits rest) other in
    record {
      all = read.all;
      place = omega (arith, long, read.place);
      test = sym (and_right digits (all_ascii_digits (run_at text at)) none) ∙ read.test;
      told = λ d. absurd (false≢true d);
    }
