-- The numbers that words write.
use Rattle.std.proofs.Common.{◌≡◌, ◌≢◌, ℕ, zero, suc, ◌+◌, ◌-◌, ◌*◌, ◌^◌, ◌<◌, ◌≤◌, Bool, true, false, not, ◌&&◌, ◌||◌, cond, eqb, List, [], ◌∷◌, length, get_or, refl, sym, ◌∙◌, ap, subst, arith, inl, inr, Option, Some, None}
use Rattle.std.specs.Prelude.{nat_le, nat_lt, codes}
use Rattle.std.proofs.lemmas.Option.{cond_some, none-some}
use Rattle.std.proofs.lemmas.Bool.{false≢true, leb-true, le-leb, eq-eqb, cases_eq, cases_Bool, and_parts, and_right, cond-false, eqb-true, ltb-false, le-ltb, lt-ltb, ne_eqb}
use Rattle.std.proofs.lemmas.Bool.Decides.{nat_tests}
use Rattle.std.proofs.lemmas.Grind.{common_steps, pow_more}
use Rattle.std.proofs.lemmas.Str.Parse.{IsNumeralModel, numerals_by_value, tells_all_ascii_digits}
use Rattle.std.proofs.lemmas.Fmt.{decimal-digits_value, decimal_digit}
use Rattle.std.proofs.lemmas.Slice.Eq.{bytes_eq-Decides}
use Rattle.std.specs.List.{fold}
use Rattle.std.specs.Fmt.{decimal}
use Rattle.std.specs.Char.{is_ascii_digit, digit_value}
use Rattle.std.specs.Str.{all_ascii_digits, bytes_eq}
use Rattle.std.specs.Str.Parse.{digits_value, digits_value_after}
use Rattle.evidence_text.specs.Scan.{IsDigit, digit_onto, form_of}
use Rattle.evidence_text.specs.Items.{within}
use Rattle.evidence_text.specs.Reading.{is_number, number_in, value_of}

-- more digits make no lesser value
digits_value_after-ge : (n : ℕ) (ds : List ℕ) → n ≤ digits_value_after 10 n ds
digits_value_after-ge n [] = omega arith
digits_value_after-ge n (d ∷ ds) = omega (arith, digits_value_after-ge (n * 10 + digit_value d) ds)

-- what is none stays none
pub fold-none : (w : List ℕ) → fold digit_onto None w ≡ None
fold-none [] = refl
fold-none (b ∷ bs) = fold-none bs

-- the value of digits behind a value, where a `u64` holds it
abbrev pub value_behind : ℕ → List ℕ → Option ℕ
value_behind v w = cond (all_ascii_digits w && nat_lt (digits_value_after 10 v w) (2 ^ 64)) (Some (digits_value_after 10 v w)) None

value_behind-digit : (v b : ℕ) (bs : List ℕ) → is_ascii_digit b ≡ true → value_behind v (b ∷ bs) ≡ value_behind (v * 10 + digit_value b) bs
value_behind-digit v b bs digit =
    ap (λ t. cond ((t && all_ascii_digits bs) && nat_lt (digits_value_after 10 (v * 10 + digit_value b) bs) (2 ^ 64)) (Some (digits_value_after 10 (v * 10 + digit_value b) bs)) None) digit

value_behind-other : (v b : ℕ) (bs : List ℕ) → is_ascii_digit b ≡ false → value_behind v (b ∷ bs) ≡ None
value_behind-other v b bs other =
    ap (λ t. cond ((t && all_ascii_digits bs) && nat_lt (digits_value_after 10 (v * 10 + digit_value b) bs) (2 ^ 64)) (Some (digits_value_after 10 (v * 10 + digit_value b) bs)) None) other

value_behind-large : (v : ℕ) (bs : List ℕ) → nat_lt v (2 ^ 64) ≡ false → value_behind v bs ≡ None
value_behind-large v bs large =
    let low : 2 ^ 64 ≤ v = ltb-false _ _ large in
    let far : nat_lt (digits_value_after 10 v bs) (2 ^ 64) ≡ false = le-ltb _ _ (omega (arith, low, digits_value_after-ge v bs)) in
    cond-false (all_ascii_digits bs && nat_lt (digits_value_after 10 v bs) (2 ^ 64)) (Some (digits_value_after 10 v bs)) None
    (and_right (all_ascii_digits bs) (nat_lt (digits_value_after 10 v bs) (2 ^ 64)) far)

-- the value of a word, digit by digit
pub fold-digits : (v : ℕ) (w : List ℕ) → nat_lt v (2 ^ 64) ≡ true → fold digit_onto (Some v) w ≡ value_behind v w
fold-digits v [] small = sym (ap (λ t. cond (true && t) (Some v) None) small)
fold-digits v (b ∷ bs) small =
    let n : ℕ = v * 10 + digit_value b in
    elim (cases_Bool (is_ascii_digit b)) [
      | inl digit ↦
          elim (cases_Bool (nat_lt n (2 ^ 64))) [
            | inl fits ↦
                ap (λ t. fold digit_onto (cond (t && nat_lt n (2 ^ 64)) (Some n) None) bs) digit
                ∙ ap (λ t. fold digit_onto (cond t (Some n) None) bs) fits
                ∙ fold-digits n bs fits ∙ sym (value_behind-digit v b bs digit)
            | inr large ↦
                ap (λ t. fold digit_onto (cond (t && nat_lt n (2 ^ 64)) (Some n) None) bs) digit
                ∙ ap (λ t. fold digit_onto (cond t (Some n) None) bs) large
                ∙ fold-none bs ∙ sym (value_behind-digit v b bs digit ∙ value_behind-large n bs large)
          ]
      | inr other ↦
          ap (λ t. fold digit_onto (cond (t && nat_lt n (2 ^ 64)) (Some n) None) bs) other
          ∙ fold-none bs ∙ sym (value_behind-other v b bs other)
    ]

-- ---- digits that no `u64` overflows

ten-more : (k n : ℕ) → 10 ^ k ≤ 10 ^ (k + n)
ten-more k zero = let same : k + zero ≡ k = omega arith in subst (λ j. 10 ^ k ≤ 10 ^ j) (sym same) (omega arith)
ten-more k (suc n) =
    let next : k + suc n ≡ k + n + 1 = omega arith in
    subst (λ j. 10 ^ k ≤ 10 ^ j) (sym next) (omega (arith, ten-more k n, pow_more 10 (k + n)))

-- a value of so many digits, and with one more
pub digits-more : (v d k : ℕ) → v < 10 ^ k → d ≤ 9 → v * 10 + d < 10 ^ (k + 1)
digits-more v d k small digit = omega (arith, small, digit, pow_more 10 k)

-- 19 digits fit
pub digits-fit : (v d k : ℕ) → k < 19 → v < 10 ^ k → d ≤ 9 → v * 10 + d < 2 ^ 64
digits-fit v d k few small digit =
    let whole : k + (18 - k) ≡ 18 = omega (arith, few) in
    let most : 10 ^ k ≤ 1000000000000000000 = subst (λ j. 10 ^ k ≤ 10 ^ j) whole (ten-more k (18 - k)) in
    let fits : v * 10 + d < 18446744073709551616 = omega (arith, small, digit, most) in
    fits

-- such a digit is put behind the value
pub digit_onto-fits : (v b d : ℕ) → IsDigit b d → v * 10 + d < 2 ^ 64 → Some (v * 10 + d) ≡ digit_onto (Some v) b
digit_onto-fits v b d h fits =
    let same : v * 10 + digit_value b ≡ v * 10 + d = ap (λ n. v * 10 + n) h.1 in
    sym
    (ap (λ t. cond (t && nat_lt (v * 10 + digit_value b) (2 ^ 64)) (Some (v * 10 + digit_value b)) None) h.0
    ∙ ap (λ n. cond (nat_lt n (2 ^ 64)) (Some n) None) same
    ∙ ap (λ t. cond t (Some (v * 10 + d)) None) (lt-ltb _ _ fits))

-- it is no blank
pub digit-inner : (b d : ℕ) → IsDigit b d → b ≢ 32
digit-inner b d h blank = false≢true (sym (ap is_ascii_digit blank) ∙ h.0)

-- below 2^64 is up to the greatest `u64`
lt-le : (v : ℕ) → nat_lt v (2 ^ 64) ≡ nat_le v (2 ^ 64 - 1)
lt-le v = grind (arith, common_steps, nat_tests)

zero_le : (v : ℕ) → nat_le 0 v ≡ true
zero_le v = grind (arith, common_steps, nat_tests)

-- the number of a word that has the form of one
number_in-parts : (a f l : Bool) (v : ℕ) → cond f (cond (a && l) (Some v) None) None ≡ cond (a && f && true && l) (Some v) None
number_in-parts true true l v = refl
number_in-parts true false l v = refl
number_in-parts false true l v = refl
number_in-parts false false l v = refl

pub number_in-form : (w : List ℕ) (f : Bool) → f ≡ form_of (length w) (get_or w 0 0)
    → cond f (fold digit_onto (Some 0) w) None ≡ number_in 0 (2 ^ 64 - 1) w
number_in-form [] f e = ap (λ t. cond t (fold digit_onto (Some 0) []) None) e
number_in-form (b ∷ bs) f e =
    let v : ℕ = value_of (b ∷ bs) in
    let a : Bool = all_ascii_digits (b ∷ bs) in
    let g : Bool = (eqb (length bs) 0) || not (eqb b 48) in
    ap (λ t. cond t (fold digit_onto (Some 0) (b ∷ bs)) None) (e ∙ form b bs)
    ∙ ap (λ (o : Option ℕ). cond g o None) (fold-digits 0 (b ∷ bs) refl)
    ∙ ap (λ t. cond g (cond (a && t) (Some v) None) None) (lt-le v)
    ∙ number_in-parts a g (nat_le v (2 ^ 64 - 1)) v
    ∙ ap (λ t. cond (a && g && t && nat_le v (2 ^ 64 - 1)) (Some v) None) (sym (zero_le v))
  where
    form : (b : ℕ) (bs : List ℕ) → form_of (length (b ∷ bs)) b ≡ ((eqb (length bs) 0) || not (eqb b 48))
    form b [] = by (eqb b 48)
      where
        by : (t : Bool) → (not t || true) ≡ true
        by true = refl
        by false = refl
    form b (c ∷ cs) =
        let long : nat_lt 0 (length (b ∷ c ∷ cs)) ≡ true = lt-ltb _ _ (omega arith) in
        let two : eqb (length (b ∷ c ∷ cs)) 1 ≡ false = ne_eqb _ _ (λ e. absurd (omega (arith, e))) in
        let some : eqb (length (c ∷ cs)) 0 ≡ false = ne_eqb _ _ (λ e. absurd (omega (arith, e))) in
        ap (λ t. t && (not (eqb b 48) || eqb (length (b ∷ c ∷ cs)) 1)) long
        ∙ ap (λ t. not (eqb b 48) || t) two ∙ by (eqb b 48) ∙ sym (ap (λ t. t || not (eqb b 48)) some)
      where
        by : (t : Bool) → (not t || false) ≡ not t
        by true = refl
        by false = refl

-- ---- numbers and decimal digits

own : IsNumeralModel (λ ds. all_ascii_digits ds ≡ true) (digits_value 10)
own = numerals_by_value _ tells_all_ascii_digits

-- a number is the decimal digits of its value
pub decimal-number : (w : List ℕ) → is_number w ≡ true → value_of w < 2 ^ 64 → decimal (value_of w) ≡ w
decimal-number [] e small = absurd (false≢true e)
decimal-number (b ∷ bs) e small =
    let parts = and_parts (all_ascii_digits (b ∷ bs)) ((eqb (length bs) 0) || not (eqb b 48)) e in
    decimal-digits_value own (b ∷ bs) parts.0 (omega arith) (λ zero_first. one (eqb (length bs) 0) refl (sym parts.1 ∙ ap (λ t. (eqb (length bs) 0) || not t) (eq-eqb b 48 zero_first))) small
  where
    one : (t : Bool) → eqb (length bs) 0 ≡ t → true ≡ (eqb (length bs) 0 || false) → length (b ∷ bs) ≡ 1
    one true e h = let none : length bs ≡ 0 = eqb-true _ _ e in omega (arith, none)
    one false e h = absurd (false≢true (sym (h ∙ ap (λ t. t || false) e)))

-- the parts of a number in its range
pub record IsIn (low high : ℕ) (w : List ℕ) (n : ℕ) : Type 0 where
  pub number : is_number w ≡ true
  pub value : value_of w ≡ n
  pub low_le : low ≤ n
  pub le_high : n ≤ high

pub number_in-parts_of : (low high : ℕ) (w : List ℕ) (n : ℕ) → number_in low high w ≡ Some n → IsIn low high w n
number_in-parts_of low high w n e =
    let (tests, is) = cond_some (is_number w && nat_le low (value_of w) && nat_le (value_of w) high) (value_of w) n e in
    let (front, le_high) = and_parts (is_number w && nat_le low (value_of w)) (nat_le (value_of w) high) tests in
    let (form, low_le) = and_parts (is_number w) (nat_le low (value_of w)) front in
    record {
      number = form;
      value = is;
      low_le = subst (λ k. low ≤ k) is (leb-true _ _ low_le);
      le_high = subst (λ k. k ≤ high) is (leb-true _ _ le_high);
    }

pub number_in-is : (low high : ℕ) (w : List ℕ) (n : ℕ) → IsIn low high w n → number_in low high w ≡ Some n
number_in-is low high w n h =
    let lower : nat_le low (value_of w) ≡ true = le-leb _ _ (omega (arith, h.value, h.low_le)) in
    let upper : nat_le (value_of w) high ≡ true = le-leb _ _ (omega (arith, h.value, h.le_high)) in
    ap (λ t. cond (t && nat_le low (value_of w) && nat_le (value_of w) high) (Some (value_of w)) None) h.number
    ∙ ap (λ t. cond (t && nat_le (value_of w) high) (Some (value_of w)) None) lower
    ∙ ap (λ t. cond t (Some (value_of w)) None) upper
    ∙ ap (λ (k : ℕ). Some k) h.value

-- a number in a wide range is in a narrow one, or not
within-cond : (low high : ℕ) (t : Bool) (v : ℕ) → within low high (cond t (Some v) None) ≡ cond (t && (nat_le low v && nat_le v high)) (Some v) None
within-cond low high true v = refl
within-cond low high false v = refl

narrow_test : (a z b l u : Bool) → z ≡ true → (u ≡ true → b ≡ true) → ((a && z && b) && (l && u)) ≡ (a && l && u)
narrow_test false z b l u from_zero narrow = refl
narrow_test true false b l u from_zero narrow = absurd (false≢true from_zero)
narrow_test true true true l u from_zero narrow = refl
narrow_test true true false false u from_zero narrow = refl
narrow_test true true false true false from_zero narrow = refl
narrow_test true true false true true from_zero narrow = absurd (false≢true (narrow refl))

pub number_in-within : (low high wide : ℕ) (w : List ℕ) → high ≤ wide → within low high (number_in 0 wide w) ≡ number_in low high w
number_in-within low high wide w h =
    let v : ℕ = value_of w in
    within-cond low high (is_number w && nat_le 0 v && nat_le v wide) v
    ∙ ap (λ t. cond t (Some v) None)
    (narrow_test (is_number w) (nat_le 0 v) (nat_le v wide) (nat_le low v) (nat_le v high) (zero_le v) (λ e. le-leb _ _ (omega (arith, h, leb-true _ _ e))))

-- 0 is written as `0` alone
pub zero-word : (w : List ℕ) → is_number w ≡ true → value_of w ≡ 0 → w ≡ codes "0"
zero-word w form is = sym (decimal-number w form (omega (arith, is))) ∙ ap decimal is ∙ decimal_digit 0 (omega arith)

pub word-zero : (w : List ℕ) (wide n : ℕ) → number_in 0 wide w ≡ Some n → bytes_eq w (codes "0") ≡ eqb n 0
word-zero w wide n e =
    let h = number_in-parts_of 0 wide w n e in
    elim (cases_eq n 0) [
      | inl is ↦ ap (λ (v : List ℕ). bytes_eq v (codes "0")) (zero-word w h.number (h.value ∙ is)) ∙ sym (eq-eqb n 0 is)
      | inr other ↦
          elim (cases_Bool (bytes_eq w (codes "0"))) [
            | inl same ↦ absurd (other (sym h.value ∙ ap value_of ((bytes_eq-Decides w (codes "0")).0 same)))
            | inr differs ↦ differs ∙ sym (ne_eqb n 0 other)
          ]
    ]

pub word-none : (w : List ℕ) (wide : ℕ) → number_in 0 wide w ≡ None → bytes_eq w (codes "0") ≡ false
word-none w wide e =
    elim (cases_Bool (bytes_eq w (codes "0"))) [
      | inl same ↦ absurd (none-some 0 (sym e ∙ ap (number_in 0 wide) ((bytes_eq-Decides w (codes "0")).0 same) ∙ zero_in wide))
      | inr differs ↦ differs
    ]
  where
    zero_in : (wide : ℕ) → number_in 0 wide (codes "0") ≡ Some 0
    zero_in wide = ap (λ t. cond t (Some 0) None) (zero_le wide)
