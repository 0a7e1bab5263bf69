-- Lemmas on places as bits of words.
use Rattle.std.proofs.Common.{◌≡◌, ◌≢◌, ◌↔◌, ℕ, zero, suc, ◌+◌, ◌-◌, ◌*◌, ◌/◌, ◌%◌, ◌^◌, ◌<◌, ◌≤◌, max, Bool, true, false, ◌==◌, cond, List, [], ◌∷◌, length, get_or, set, refl, sym, ◌∙◌, ap, subst, inl, inr, arith, w64}
use Rattle.std.specs.Prelude.{filter, slice_index_or, slice_set, bit_and, bit_or}
use Rattle.std.specs.Int.{bit_at, bit_not}
use Rattle.std.specs.List.{range_with_len}
use Rattle.std.proofs.lemmas.Bool.{cases_eq, cases_lt, true≢false}
use Rattle.std.proofs.lemmas.List.{length-set, get_or-set_same, get_or-set_other}
use Rattle.std.proofs.lemmas.Nat.Bits.{bit_at-zero, bit_at_set_same, bit_at_set_other, bit_at_clear_same, bit_at_clear_other}
use Rattle.sat_base.specs.Members.{In}
use Rattle.sat_base.specs.Work.{HasMore, IsGreatest, LosesCopies}
use Rattle.learn_step.specs.Pending.{is_pending, pending, AreCut, AreSame}

In-range : (a n m : ℕ) → a ≤ m → m < a + n → In m (range_with_len a n)
In-range a zero m from to = absurd (omega arith)
In-range a (suc n) m from to =
    elim (cases_eq m a) [
      | inl same ↦ inl same
      | inr other ↦ inr (In-range (a + 1) n m (omega (arith, other)) (omega arith))
    ]

In-filter : (p : ℕ → Bool) (m : ℕ) (xs : List ℕ) → p m ≡ true → In m xs → In m (filter p xs)
In-filter p m [] on i = absurd i
In-filter p m (x ∷ xs) on (inl same) = elim (p x) as (λ b. p x ≡ b → In m (cond b (x ∷ filter p xs) (filter p xs))) [
  | true ↦ λ is. inl same
  | false ↦ λ is. absurd (true≢false (sym on ∙ ap p same ∙ is))
] refl
In-filter p m (x ∷ xs) on (inr later) =
    elim (p x) as (λ b. In m (cond b (x ∷ filter p xs) (filter p xs))) [
      | true ↦ inr (In-filter p m xs on later)
      | false ↦ In-filter p m xs on later
    ]

passes : (p : ℕ → Bool) (m : ℕ) (xs : List ℕ) → In m (filter p xs) → p m ≡ true
passes p m [] i = absurd i
passes p m (x ∷ xs) i =
    elim (p x) as (λ b. p x ≡ b → In m (cond b (x ∷ filter p xs) (filter p xs)) → p m ≡ true) [
      | true ↦ λ on j.
          elim j [
            | inl same ↦ ap p same ∙ on
            | inr later ↦ passes p m xs later
          ]
      | false ↦ λ off j. passes p m xs j
    ] refl i

-- a word past the end is 0
past : (words : List ℕ) (at : ℕ) → length words ≤ at → slice_index_or words at 0 ≡ 0
past [] zero l = refl
past [] (suc at) l = refl
past (w ∷ words) zero l = absurd (omega arith)
past (w ∷ words) (suc at) l = past words at (omega arith)

no_bit : (words : List ℕ) (m : ℕ) → slice_index_or words (m / 64) 0 ≡ 0 → is_pending words m ≡ true → ⊥
no_bit words m is_zero on =
    true≢false (sym on ∙ ap (λ w. bit_at w (63 - m % 64) == 1) is_zero ∙ ap (λ b. b == 1) (bit_at-zero (63 - m % 64)))

-- a place is a member exactly where its bit is set
pub In-pending : (words : List ℕ) (m : ℕ) → In m (pending words) ↔ (is_pending words m ≡ true)
In-pending words m = (
  passes (is_pending words) m (range_with_len 0 (64 * length words)),
  λ on.
      elim (cases_lt m (64 * length words)) [
        | inl within ↦ In-filter (is_pending words) m (range_with_len 0 (64 * length words)) on (In-range 0 (64 * length words) m (omega arith) (omega arith))
        | inr beyond ↦ absurd (no_bit words m (past words (m / 64) (omega arith)) on)
      ],
)

-- the lowest bit of the last word is the greatest place
module _ (words : List ℕ) (at low place : ℕ) (last : length words ≡ at + 1) (within : low < 64) (is : place ≡ 64 * at + (63 - low))
    (set_bit : bit_at (slice_index_or words at 0) low ≡ 1) (lowest : (i : ℕ) → i < low → bit_at (slice_index_or words at 0) i ≡ 0) where
  at_word : place / 64 ≡ at
  at_word = omega (arith, within, is)

  at_bit : 63 - place % 64 ≡ low
  at_bit = omega (arith, within, is)

  set_there : is_pending words place ≡ true
  set_there = rw at_word (rw at_bit (ap (λ b. b == 1) set_bit))

  -- no lower bit is set
  in_last : (m : ℕ) → m / 64 ≡ at → is_pending words m ≡ true → low ≤ 63 - m % 64
  in_last m same on =
      elim (cases_lt (63 - m % 64) low) [
        | inl under ↦
            absurd
            (true≢false
            (sym on ∙ ap (λ k. bit_at (slice_index_or words k 0) (63 - m % 64) == 1) same ∙ ap (λ b. b == 1) (lowest (63 - m % 64) under)))
        | inr over ↦ over
      ]

  not_above : (m : ℕ) → is_pending words m ≡ true → m ≤ place
  not_above m on =
      elim (cases_lt (m / 64) at) [
        | inl lower ↦ omega (arith, lower, is)
        | inr from ↦
            elim (cases_eq (m / 64) at) [
              | inl same ↦ omega (arith, same, in_last m same on, is, within)
              | inr other ↦ absurd (no_bit words m (past words (m / 64) (omega (arith, last, from, other))) on)
            ]
      ]

  pub greatest_place : IsGreatest (pending words) place
  greatest_place = record { has = (In-pending words place).1 set_there; above = λ m i. not_above m ((In-pending words m).0 i) }

-- a word was written
module _ (words : List ℕ) (place word : ℕ) (has : place / 64 < length words) where
  other_word : (m : ℕ) → m / 64 ≢ place / 64 → is_pending (slice_set words (place / 64) word) m ≡ is_pending words m
  other_word m differ = ap (λ w. bit_at w (63 - m % 64) == 1) (get_or-set_other words (place / 64) (m / 64) word 0 differ)

  same_word : (m : ℕ) → m / 64 ≡ place / 64 → is_pending (slice_set words (place / 64) word) m ≡ (bit_at word (63 - m % 64) == 1)
  same_word m same = ap (λ w. bit_at w (63 - m % 64) == 1) (ap (λ k. get_or (set words (place / 64) word) k 0) same ∙ get_or-set_same words (place / 64) word 0 has)

-- the word with the bit of a place set, and with it cleared
abbrev pub with_place : ℕ → ℕ → ℕ
with_place word place = bit_or word (1 * 2 ^ (63 - place % 64) % 2 ^ 64)

abbrev pub without_place : ℕ → ℕ → ℕ
without_place word place = bit_and word (bit_not w64 (1 * 2 ^ (63 - place % 64) % 2 ^ 64))

-- the places of a word have different bits
other_bit : (m place : ℕ) → m / 64 ≡ place / 64 → m ≢ place → 63 - m % 64 ≢ 63 - place % 64
other_bit m place same differ equal = differ (omega (arith, same, equal))

module _ (words : List ℕ) (place : ℕ) (has : place / 64 < length words) where
  pub put_in : is_pending (slice_set words (place / 64) (with_place (slice_index_or words (place / 64) 0) place)) place ≡ true
  put_in =
      same_word words place (with_place (slice_index_or words (place / 64) 0) place) has place refl
      ∙ ap (λ b. b == 1) (bit_at_set_same w64 (slice_index_or words (place / 64) 0) (63 - place % 64) (omega arith))

  pub put_others : (m : ℕ) → m ≢ place → is_pending (slice_set words (place / 64) (with_place (slice_index_or words (place / 64) 0) place)) m ≡ is_pending words m
  put_others m differ =
      elim (cases_eq (m / 64) (place / 64)) [
        | inl same ↦
            same_word words place (with_place (slice_index_or words (place / 64) 0) place) has m same
            ∙ ap (λ b. b == 1) (bit_at_set_other w64 (slice_index_or words (place / 64) 0) (63 - place % 64) (omega arith) (63 - m % 64) (other_bit m place same differ))
            ∙ ap (λ k. bit_at (slice_index_or words k 0) (63 - m % 64) == 1) (sym same)
        | inr apart ↦ other_word words place (with_place (slice_index_or words (place / 64) 0) place) has m apart
      ]

  pub taken_out : is_pending (slice_set words (place / 64) (without_place (slice_index_or words (place / 64) 0) place)) place ≡ false
  taken_out =
      same_word words place (without_place (slice_index_or words (place / 64) 0) place) has place refl
      ∙ ap (λ b. b == 1) (bit_at_clear_same w64 (slice_index_or words (place / 64) 0) (63 - place % 64) (omega arith))

  pub take_others : (m : ℕ) → m ≢ place → is_pending (slice_set words (place / 64) (without_place (slice_index_or words (place / 64) 0) place)) m ≡ is_pending words m
  take_others m differ =
      elim (cases_eq (m / 64) (place / 64)) [
        | inl same ↦
            same_word words place (without_place (slice_index_or words (place / 64) 0) place) has m same
            ∙ ap (λ b. b == 1)
            (bit_at_clear_other w64 (slice_index_or words (place / 64) 0) (63 - place % 64) (omega arith) (63 - m % 64) (omega arith) (other_bit m place same differ))
            ∙ ap (λ k. bit_at (slice_index_or words k 0) (63 - m % 64) == 1) (sym same)
        | inr apart ↦ other_word words place (without_place (slice_index_or words (place / 64) 0) place) has m apart
      ]

-- zeros at the end change no place
pub same_places : (old new : List ℕ) → AreSame old new → (m : ℕ) → is_pending new m ≡ is_pending old m
same_places old new same m = ap (λ w. bit_at w (63 - m % 64) == 1) (same (m / 64))

-- a word with a bit is not 0
some_bit : (word k : ℕ) → bit_at word k ≡ 1 → 0 < word
some_bit zero k h = absurd (omega (arith, sym (bit_at-zero k) ∙ h))
some_bit (suc other) k h = omega arith

-- one more place
module _ (old mid : List ℕ) (place : ℕ) (has : place / 64 < length mid) (same : AreSame old mid) where
  pub more_places : HasMore (pending old) (pending (slice_set mid (place / 64) (with_place (slice_index_or mid (place / 64) 0) place))) place
  more_places m = (
    λ i.
        elim (cases_eq m place) [
          | inl equal ↦ inl equal
          | inr other ↦
              inr
              ((In-pending old m).1
              (sym (same_places old mid same m) ∙ sym (put_others mid place has m other) ∙ (In-pending (slice_set mid (place / 64) (with_place (slice_index_or mid (place / 64) 0) place)) m).0 i))
        ],
    λ i.
        (In-pending (slice_set mid (place / 64) (with_place (slice_index_or mid (place / 64) 0) place)) m).1
        (elim (cases_eq m place) [
          | inl equal ↦ ap (is_pending (slice_set mid (place / 64) (with_place (slice_index_or mid (place / 64) 0) place))) equal ∙ put_in mid place has
          | inr other ↦
              put_others mid place has m other
              ∙ same_places old mid same m
              ∙ elim i [
                | inl equal ↦ absurd (other equal)
                | inr was ↦ (In-pending old m).0 was
              ]
        ]),
  )

  pub more_cut : place < 2 ^ 64 → length mid ≡ max (length old) (place / 64 + 1) → AreCut old
      → AreCut (slice_set mid (place / 64) (with_place (slice_index_or mid (place / 64) 0) place))
  more_cut fits long cut = record {
    ends = λ at last.
        elim (cases_eq at (place / 64)) [
          | inl here ↦
              subst (λ k. 0 < slice_index_or (slice_set mid (place / 64) (with_place (slice_index_or mid (place / 64) 0) place)) k 0) (sym here)
              (subst (λ w. 0 < w) (sym (get_or-set_same mid (place / 64) (with_place (slice_index_or mid (place / 64) 0) place) 0 has))
              (some_bit (with_place (slice_index_or mid (place / 64) 0) place) (63 - place % 64)
              (bit_at_set_same w64 (slice_index_or mid (place / 64) 0) (63 - place % 64) (omega arith))))
          | inr apart ↦
              subst (λ w. 0 < w) (sym (get_or-set_other mid (place / 64) at (with_place (slice_index_or mid (place / 64) 0) place) 0 apart ∙ same at))
              (cut.ends at (omega (arith, last, apart, long, length-set mid (place / 64) (with_place (slice_index_or mid (place / 64) 0) place))))
        ];
    few = omega (arith, fits, long, cut.few, length-set mid (place / 64) (with_place (slice_index_or mid (place / 64) 0) place));
  }

-- one place less
pub lost_place : (old new : List ℕ) (place : ℕ) → place / 64 < length old
    → AreSame (slice_set old (place / 64) (without_place (slice_index_or old (place / 64) 0) place)) new → LosesCopies (pending old) (pending new) place
lost_place old new place has same m = (
  λ i.
      let on : is_pending new m ≡ true = (In-pending new m).0 i in
      let differ : m ≢ place = λ equal. true≢false (sym on ∙ same_places (slice_set old (place / 64) (without_place (slice_index_or old (place / 64) 0) place)) new same m ∙ ap (is_pending (slice_set old (place / 64) (without_place (slice_index_or old (place / 64) 0) place))) equal ∙ taken_out old place has) in
      ((In-pending old m).1 (sym (take_others old place has m differ) ∙ sym (same_places (slice_set old (place / 64) (without_place (slice_index_or old (place / 64) 0) place)) new same m) ∙ on), differ),
  λ (i, differ).
      (In-pending new m).1 (same_places (slice_set old (place / 64) (without_place (slice_index_or old (place / 64) 0) place)) new same m ∙ take_others old place has m differ ∙ (In-pending old m).0 i),
)

-- a place that is put in has a word
pub has_word : (words : List ℕ) (m : ℕ) → In m (pending words) → m / 64 < length words
has_word words m i =
    elim (cases_lt (m / 64) (length words)) [
      | inl within ↦ within
      | inr beyond ↦ absurd (no_bit words m (past words (m / 64) beyond) ((In-pending words m).0 i))
    ]
