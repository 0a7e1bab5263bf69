-- Lemmas on truth values as bits of words.
use Rattle.std.proofs.Common.{◌≡◌, ◌≢◌, ℕ, zero, suc, ◌*◌, ◌/◌, ◌%◌, ◌<◌, ◌≤◌, min, Bool, true, false, ◌==◌, List, length, get_or, set, take, replicate, refl, sym, ◌∙◌, ap, inl, inr, arith, w64}
use Rattle.std.proofs.lemmas.Bool.{cases_eq, cases_lt}
use Rattle.std.proofs.lemmas.List.{length-set, get_or-set_same, get_or-set_other, get_or-replicate, get_or-take, length-replicate, take_all}
use Rattle.std.proofs.lemmas.List.FromFn.{length-map-range_with_len, get_or-map-range_with_len, take-map-range_with_len, fill_by_all}
use Rattle.std.proofs.lemmas.Nat.Bits.{bit_at-zero, bit_at_set_same, bit_at_set_other, bit_at_clear_same, bit_at_clear_other}
use Rattle.std.specs.Prelude.{slice_index}
use Rattle.std.specs.Int.{bit_at}
use Rattle.sat_base.specs.Bits.{truth_at, truths, with_bit, with_truth}

pub length-truths : (len : ℕ) (words : List ℕ) → length (truths len words) ≡ len
length-truths len words = length-map-range_with_len (truth_at words) 0 len

pub get_or-truths : (len : ℕ) (words : List ℕ) (i : ℕ) (d : Bool) → i < len → get_or (truths len words) i d ≡ truth_at words i
get_or-truths len words i d within = get_or-map-range_with_len (truth_at words) 0 len i i d within (omega arith)

-- a shorter length is a prefix
pub take-truths : (n len : ℕ) (words : List ℕ) → take n (truths len words) ≡ truths (min len n) words
take-truths n len words =
    elim (cases_lt n len) [
      | inl shorter ↦
          let least : min len n ≡ n = omega arith in
          rw least (take-map-range_with_len (truth_at words) 0 len n (omega arith))
      | inr longer ↦
          let least : min len n ≡ len = omega arith in
          rw least (take_all n (truths len words) (omega (arith, length-truths len words)))
    ]

-- values stand in the first words alone
pub truths-take : (len n : ℕ) (words : List ℕ) → len ≤ 64 * n → truths len (take n words) ≡ truths len words
truths-take len n words within =
    fill_by_all (truth_at words) (truths len (take n words)) len false (length-truths len (take n words))
    (λ i small.
    get_or-truths len (take n words) i false small
    ∙ ap (λ w. bit_at w (i % 64) == 1) (get_or-take n words (i / 64) 0 (omega arith)))

-- words that begin alike have the same first values
pub truths-alike : (len n : ℕ) (words others : List ℕ) → len ≤ 64 * n → take n words ≡ take n others → truths len words ≡ truths len others
truths-alike len n words others within same = sym (truths-take len n words within) ∙ ap (truths len) same ∙ truths-take len n others within

zero_word : (k i : ℕ) → slice_index (replicate k 0) i ≡ 0
zero_word zero i = refl
zero_word (suc k) zero = refl
zero_word (suc k) (suc i) = zero_word k i

-- zero words are false throughout
pub truths-zero : (len k : ℕ) → truths len (replicate k 0) ≡ replicate len false
truths-zero len k =
    sym
    (fill_by_all (truth_at (replicate k 0)) (replicate len false) len false (length-replicate len false)
    (λ i within.
    get_or-replicate len i false false within
    ∙ sym (ap (λ w. bit_at w (i % 64) == 1) (zero_word k (i / 64)) ∙ ap (λ b. b == 1) (bit_at-zero (i % 64)))))

same_bit : (word k : ℕ) (value : Bool) → k < 64 → (bit_at (with_bit word k value) k == 1) ≡ value
same_bit word k true within = ap (λ b. b == 1) (bit_at_set_same w64 word k within)
same_bit word k false within = ap (λ b. b == 1) (bit_at_clear_same w64 word k within)

other_bit : (word k : ℕ) (value : Bool) (i : ℕ) → k < 64 → i < 64 → i ≢ k → bit_at (with_bit word k value) i ≡ bit_at word i
other_bit word k true i within small differ = bit_at_set_other w64 word k within i differ
other_bit word k false i within small differ = bit_at_clear_other w64 word k within i small differ

module _ (words : List ℕ) (at : ℕ) (value : Bool) (has : at < 64 * length words) where
  written_same : truth_at (with_truth words at value) at ≡ value
  written_same =
      ap (λ w. bit_at w (at % 64) == 1) (get_or-set_same words (at / 64) (with_bit (get_or words (at / 64) 0) (at % 64) value) 0 (omega arith))
      ∙ same_bit (get_or words (at / 64) 0) (at % 64) value (omega arith)

  written_other : (i : ℕ) → i ≢ at → truth_at (with_truth words at value) i ≡ truth_at words i
  written_other i differ =
      elim (cases_eq (i / 64) (at / 64)) [
        | inl same ↦
            rw same
            (ap (λ w. bit_at w (i % 64) == 1) (get_or-set_same words (at / 64) (with_bit (get_or words (at / 64) 0) (at % 64) value) 0 (omega arith))
            ∙ ap (λ b. b == 1) (other_bit (get_or words (at / 64) 0) (at % 64) value (i % 64) (omega arith) (omega arith) (λ e. differ (omega arith))))
        | inr other ↦
            ap (λ w. bit_at w (i % 64) == 1) (get_or-set_other words (at / 64) (i / 64) (with_bit (get_or words (at / 64) 0) (at % 64) value) 0 other)
      ]

  -- one truth value is written, and the others stay
  pub truths-with_truth : (len : ℕ) → at < len → truths len (with_truth words at value) ≡ set (truths len words) at value
  truths-with_truth len within =
      sym
      (fill_by_all (truth_at (with_truth words at value)) (set (truths len words) at value) len false
      (length-set (truths len words) at value ∙ length-truths len words)
      (λ i small.
      elim (cases_eq i at) [
        | inl same ↦
            rw same
            (get_or-set_same (truths len words) at value false (omega (arith, length-truths len words)) ∙ sym written_same)
        | inr other ↦
            get_or-set_other (truths len words) at i value false other ∙ get_or-truths len words i false small ∙ sym (written_other i other)
      ]))
