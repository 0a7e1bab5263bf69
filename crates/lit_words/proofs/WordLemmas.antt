-- Words, bit by bit, and the literals that they stand for.
use Rattle.std.proofs.Common.{◌≡◌, ◌≢◌, ◌↔◌, ◌⊎◌, ℕ, ℤ, zero, suc, ◌*◌, ◌%◌, ◌^◌, ◌<◌, sym, ◌∙◌, ap, inl, inr, arith, w64}
use Rattle.std.specs.Prelude.{bit_and, bit_or, pos, negsuc, neg_ℤ, Option, Some, None, IfNone}
use Rattle.std.specs.Int.{bit_at, bit_not}
use Rattle.std.proofs.lemmas.Bool.{cases_eq, cases_lt}
use Rattle.std.proofs.lemmas.Nat.Bits.{bit_at-lt, bit_at_and, bit_at_not, bit_at_above, bit_at_set_same, bit_at_set_other, bit_at_clear_same, bit_at_clear_other}
use Rattle.sat_base.specs.Literals.{var_of}
use Rattle.lit_words.specs.Words.{Has}
use Rattle.lit_words.specs.declared.lit_words.LitWords.{LitWords}

-- a word has 64 bits
pub bit_below : (word i : ℕ) → word < 2 ^ 64 → bit_at word i ≡ 1 → i < 64
bit_below word i fits on =
    elim (cases_lt i 64) [
      | inl below ↦ below
      | inr above ↦ absurd (omega (arith, bit_at_above word 64 i fits above, on))
    ]

pub bit_both : (a b i : ℕ) → (bit_at (bit_and a b) i ≡ 1) ↔ ((bit_at a i ≡ 1) × (bit_at b i ≡ 1))
bit_both a b i = (
  λ on. (omega (arith, on, bit_at_and a b i, bit_at-lt a i, bit_at-lt b i), omega (arith, on, bit_at_and a b i, bit_at-lt a i, bit_at-lt b i)),
  λ on. omega (arith, on.0, on.1, bit_at_and a b i),
)

pub bit_without : (a b i : ℕ) → a < 2 ^ 64 → b < 2 ^ 64 → (bit_at (bit_and a (bit_not w64 b)) i ≡ 1) ↔ ((bit_at a i ≡ 1) × (bit_at b i ≢ 1))
bit_without a b i fits other_fits = (
  λ on.
      let of_a = ((bit_both a (bit_not w64 b) i).0 on).0 in
      let off = ((bit_both a (bit_not w64 b) i).0 on).1 in
      (of_a, λ of_b. absurd (omega (arith, off, of_b, bit_at_not w64 b i other_fits (bit_below a i fits of_a)))),
  λ on.
      (bit_both a (bit_not w64 b) i).1
      (on.0, omega (arith, on.1, bit_at-lt b i, bit_at_not w64 b i other_fits (bit_below a i fits on.0))),
)

pub bit_set : (word k i : ℕ) → k < 64 → (bit_at (bit_or word (1 * 2 ^ k % 2 ^ 64)) i ≡ 1) ↔ ((i ≡ k) ⊎ (bit_at word i ≡ 1))
bit_set word k i within =
    elim (cases_eq i k) [
      | inl same ↦ (λ on. inl same, λ on. ap (bit_at (bit_or word (1 * 2 ^ k % 2 ^ 64))) same ∙ bit_at_set_same w64 word k within)
      | inr other ↦ (
        λ on. inr (sym (bit_at_set_other w64 word k within i other) ∙ on),
        λ on. elim on [
          | inl same ↦ absurd (other same)
          | inr old ↦ bit_at_set_other w64 word k within i other ∙ old
        ],
      )
    ]

pub bit_cleared : (word k i : ℕ) → word < 2 ^ 64 → k < 64 → (bit_at (bit_and word (bit_not w64 (1 * 2 ^ k % 2 ^ 64))) i ≡ 1) ↔ ((i ≢ k) × (bit_at word i ≡ 1))
bit_cleared word k i fits within =
    elim (cases_eq i k) [
      | inl same ↦ (
        λ on. absurd (omega (arith, sym on ∙ ap (bit_at (bit_and word (bit_not w64 (1 * 2 ^ k % 2 ^ 64)))) same ∙ bit_at_clear_same w64 word k within)),
        λ on. absurd (on.0 same),
      )
      | inr other ↦ (
        λ on. (other, ((bit_both word (bit_not w64 (1 * 2 ^ k % 2 ^ 64)) i).0 on).0),
        λ on. bit_at_clear_other w64 word k within i (bit_below word i fits on.1) other ∙ on.1,
      )
    ]

-- a set has a literal or not
has_or_not : (words : LitWords) (x : ℤ) → Has words x ⊎ (¬ Has words x)
has_or_not words (pos zero) = inr (λ has. has)
has_or_not words (pos (suc i)) = cases_eq (bit_at words.positive i) 1
has_or_not words (negsuc i) = cases_eq (bit_at words.negative i) 1

-- two literals are the same or not
same_or_not : (x y : ℤ) → (x ≡ y) ⊎ (x ≢ y)
same_or_not (pos a) (pos b) = elim (cases_eq a b) [ inl same ↦ inl (ap pos same) | inr differ ↦ inr (λ same. differ (ap var_of same)) ]
same_or_not (pos a) (negsuc b) = inr (λ same. cc)
same_or_not (negsuc a) (pos b) = inr (λ same. cc)
same_or_not (negsuc a) (negsuc b) = elim (cases_eq a b) [ inl same ↦ inl (ap negsuc same) | inr differ ↦ inr (λ same. differ (omega (arith, ap var_of same))) ]

-- where no literal is left, each is `other` or false
pub none_open : (words trues kept left : LitWords) (other : ℤ) (o : Option ℤ)
    → ((x : ℤ) → Has kept x ↔ (Has words x × (¬ Has trues (neg_ℤ x)))) → ((x : ℤ) → Has left x ↔ ((x ≢ other) × Has kept x))
    → IfNone o ((x : ℤ) → ¬ Has left x) → IfNone o ((x : ℤ) → Has words x → (x ≡ other) ⊎ Has trues (neg_ℤ x))
none_open words trues kept left other (Some lit) not_false rest none = tt
none_open words trues kept left other None not_false rest none = λ x has.
    elim (same_or_not x other) [
      | inl same ↦ inl same
      | inr differs ↦ elim (has_or_not trues (neg_ℤ x)) [
        | inl false ↦ inr false
        | inr open_to ↦ absurd (none x ((rest x).1 (differs, (not_false x).1 (has, open_to))))
      ]
    ]
