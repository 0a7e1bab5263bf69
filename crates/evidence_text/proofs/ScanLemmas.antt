-- What a scan of a word tells of its number.
use Rattle.std.proofs.Common.{◌≡◌, ℕ, ◌+◌, ◌-◌, ◌^◌, Bool, cond, List, length, get_or, refl, sym, ◌∙◌, ap, arith, inl, inr, Option, Some, None}
use Rattle.std.proofs.lemmas.Bool.{cases_lt}
use Rattle.std.specs.List.{fold}
use Rattle.evidence_text.specs.Scan.{digit_onto, form_of, word_from}
use Rattle.evidence_text.specs.Reading.{number_in}
use Rattle.evidence_text.proofs.NumberLemmas.{number_in-form}
use Rattle.evidence_text.proofs.WordLemmas.{word_from-head}

-- the first byte of an empty word is no matter
form_of-empty : (x y : ℕ) → form_of 0 x ≡ form_of 0 y
form_of-empty x y = refl

form_of-word : (line : List ℕ) (from len : ℕ) → len ≡ length (word_from line from) → form_of len (get_or line from 0) ≡ form_of (length (word_from line from)) (get_or (word_from line from) 0 0)
form_of-word line from len same =
    ap (λ n. form_of n (get_or line from 0)) same ∙ by (length (word_from line from)) refl
  where
    by : (n : ℕ) → length (word_from line from) ≡ n → form_of n (get_or line from 0) ≡ form_of n (get_or (word_from line from) 0 0)
    by n e =
        elim (cases_lt 0 n) [
          | inl some ↦ ap (form_of n) (sym (word_from-head line from (omega (arith, e, some))))
          | inr none ↦ let zero_long : n ≡ 0 = omega (arith, none) in
              ap (λ k. form_of k (get_or line from 0)) zero_long ∙ sym (ap (λ k. form_of k (get_or (word_from line from) 0 0)) zero_long)
        ]

-- the number is that of the word
pub number_in-scanned : (line : List ℕ) (from end : ℕ) (value : Option ℕ) (f : Bool) → end ≡ from + length (word_from line from)
    → value ≡ fold digit_onto (Some 0) (word_from line from) → f ≡ form_of (end - from) (get_or line from 0)
    → cond f value None ≡ number_in 0 (2 ^ 64 - 1) (word_from line from)
number_in-scanned line from end value f ends is form =
    ap (λ (o : Option ℕ). cond f o None) is
    ∙ number_in-form (word_from line from) f (form ∙ form_of-word line from (end - from) (omega (arith, ends)))
