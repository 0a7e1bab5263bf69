-- Lists of places as bits of words.
use Rattle.std.proofs.Common.{◌≡◌, ◌≢◌, ◌⊎◌, ℕ, zero, suc, ◌+◌, ◌-◌, ◌*◌, ◌/◌, ◌%◌, ◌^◌, ◌<◌, ◌≤◌, Bool, true, false, ◌==◌, ◌&&◌, ◌||◌, cond, eqb, List, [], ◌∷◌, ◌++◌, length, get_or, set, Some, None, Ok, Err, refl, sym, ◌∙◌, ap, ap₂, subst, inl, inr, arith, append_assoc, append-nil, w32}
use Rattle.std.specs.Prelude.{bit_or, Result, OnOk, OnErr}
use Rattle.std.specs.List.{filter, find, range_with_len}
use Rattle.std.specs.List.Sorted.{IsBinarySearchResult, IsSearchInRange}
use Rattle.std.specs.Ordering.{nat_cmp}
use Rattle.std.proofs.lemmas.Bool.{cases_eq, cases_lt, eq-eqb, ne_eqb, or_from, or_left}
use Rattle.std.proofs.lemmas.List.{length-set, get_or-set_same, get_or-set_other, get_or_default, get_or_read, nil_from_length}
use Rattle.std.proofs.lemmas.List.Concat.{flat_map-append}
use Rattle.std.proofs.lemmas.List.Folds.{list_any-append}
use Rattle.std.proofs.lemmas.List.Quantifiers.{all_pairs_push}
use Rattle.std.proofs.lemmas.Nat.{pow_pos, le-div}
use Rattle.std.proofs.lemmas.Nat.Bits.{bit_at_set_same, bit_at_set_other, bit_at_above}
use Rattle.gm_base.specs.Sets.{has}
use Rattle.evidence_rec.specs.declared.places.Block.{Block}
use Rattle.evidence_rec.specs.Columns.{is_set}
use Rattle.evidence_rec.specs.Places.{bit_places, block_places, places_of, Ascend, IsAt, HasNone}
use Rattle.evidence_rec.proofs.ColumnLemmas.{is_set-or, is_set-zero}
use Rattle.lrat_check.proofs.HalvingLemmas.{halved_here, halved_nowhere}

-- ---- the numbers of a range that pass a test

picked-below : (p : ℕ → Bool) (a n g : ℕ) → g < a → has (filter p (range_with_len a n)) g ≡ false
picked-below p a zero g low = refl
picked-below p a (suc n) g low = by (p a) (filter p (range_with_len (a + 1) n)) (picked-below p (a + 1) n g (omega arith))
  where
    by : (b : Bool) (rest : List ℕ) → has rest g ≡ false → has (cond b (a ∷ rest) rest) g ≡ false
    by true rest none = or_from (eqb a g) (has rest g) (ne_eqb a g (λ same. absurd (omega arith))) none
    by false rest none = none

picked-above : (p : ℕ → Bool) (a n g : ℕ) → a + n ≤ g → has (filter p (range_with_len a n)) g ≡ false
picked-above p a zero g high = refl
picked-above p a (suc n) g high = by (p a) (filter p (range_with_len (a + 1) n)) (picked-above p (a + 1) n g (omega arith))
  where
    by : (b : Bool) (rest : List ℕ) → has rest g ≡ false → has (cond b (a ∷ rest) rest) g ≡ false
    by true rest none = or_from (eqb a g) (has rest g) (ne_eqb a g (λ same. absurd (omega arith))) none
    by false rest none = none

-- a number of the range is picked where it passes
picked-has : (p : ℕ → Bool) (a n g : ℕ) → a ≤ g → g < a + n → has (filter p (range_with_len a n)) g ≡ p g
picked-has p a zero g low high = absurd (omega arith)
picked-has p a (suc n) g low high =
    elim (cases_eq a g) [
      | inl same ↦ here (p a) (filter p (range_with_len (a + 1) n)) (ap p same) (picked-below p (a + 1) n g (omega arith)) same
      | inr other ↦ later (p a) (filter p (range_with_len (a + 1) n)) (picked-has p (a + 1) n g (omega arith) (omega arith)) other
    ]
  where
    here : (b : Bool) (rest : List ℕ) → b ≡ p g → has rest g ≡ false → a ≡ g → has (cond b (a ∷ rest) rest) g ≡ p g
    here true rest is none same = or_left (eqb a g) (has rest g) (eq-eqb a g same) ∙ is
    here false rest is none same = none ∙ is

    later : (b : Bool) (rest : List ℕ) → has rest g ≡ p g → a ≢ g → has (cond b (a ∷ rest) rest) g ≡ p g
    later true rest is other = ap (λ e. e || has rest g) (ne_eqb a g other) ∙ is
    later false rest is other = is

picked-none : (p : ℕ → Bool) (a n : ℕ) → ((g : ℕ) → a ≤ g → p g ≡ false) → filter p (range_with_len a n) ≡ []
picked-none p a zero none = refl
picked-none p a (suc n) none =
    ap (λ b. cond b (a ∷ filter p (range_with_len (a + 1) n)) (filter p (range_with_len (a + 1) n))) (none a (omega arith))
    ∙ picked-none p (a + 1) n (λ g le. none g (omega arith))

-- one passes besides, behind all others
picked-more : (p q : ℕ → Bool) (a n k : ℕ) → a ≤ k → k < a + n → q k ≡ true → ((g : ℕ) → a ≤ g → g ≢ k → q g ≡ p g)
    → ((g : ℕ) → k ≤ g → p g ≡ false) → filter q (range_with_len a n) ≡ filter p (range_with_len a n) ++ k ∷ []
picked-more p q a zero k low high on same none = absurd (omega arith)
picked-more p q a (suc n) k low high on same none =
    elim (cases_eq a k) [
      | inl here ↦ last here
      | inr other ↦
          before (p a) (q a) (filter p (range_with_len (a + 1) n)) (filter q (range_with_len (a + 1) n)) (same a (omega arith) other)
          (picked-more p q (a + 1) n k (omega arith) (omega arith) on (λ g le. same g (omega arith)) none)
    ]
  where
    last : a ≡ k → filter q (range_with_len a (suc n)) ≡ filter p (range_with_len a (suc n)) ++ k ∷ []
    last here =
        ap (λ b. cond b (a ∷ filter q (range_with_len (a + 1) n)) (filter q (range_with_len (a + 1) n))) (ap q here ∙ on)
        ∙ ap₂ (λ (g : ℕ) (gs : List ℕ). g ∷ gs) here
        (picked-none q (a + 1) n (λ g le. same g (omega arith) (λ e. absurd (omega arith)) ∙ none g (omega arith)))
        ∙ sym (ap (λ gs. gs ++ k ∷ []) (picked-none p a (suc n) (λ g le. none g (omega arith))))

    before : (b c : Bool) (xs ys : List ℕ) → c ≡ b → ys ≡ xs ++ k ∷ [] → cond c (a ∷ ys) ys ≡ cond b (a ∷ xs) xs ++ k ∷ []
    before true c xs ys is rest = ap (λ d. cond d (a ∷ ys) ys) is ∙ ap (λ gs. a ∷ gs) rest
    before false c xs ys is rest = ap (λ d. cond d (a ∷ ys) ys) is ∙ rest

-- what is found among those that pass is found by both tests
find-picked : (test p : ℕ → Bool) (xs : List ℕ) → find test (filter p xs) ≡ find (λ g. p g && test g) xs
find-picked test p [] = refl
find-picked test p (x ∷ xs) = by (p x) (filter p xs) (find-picked test p xs)
  where
    by : (b : Bool) (ys : List ℕ) → find test ys ≡ find (λ g. p g && test g) xs
        → find test (cond b (x ∷ ys) ys) ≡ cond (b && test x) (Some x) (find (λ g. p g && test g) xs)
    by true ys rest = ap (λ o. cond (test x) (Some x) o) rest
    by false ys rest = rest

range-none : (test : ℕ → Bool) (a n : ℕ) → ((g : ℕ) → a ≤ g → g < a + n → test g ≡ false) → find test (range_with_len a n) ≡ None
range-none test a zero none = refl
range-none test a (suc n) none =
    ap (λ b. cond b (Some a) (find test (range_with_len (a + 1) n))) (none a (omega arith) (omega arith))
    ∙ range-none test (a + 1) n (λ g low high. none g (omega arith) (omega arith))

range-first : (test : ℕ → Bool) (a n k : ℕ) → a ≤ k → k < a + n → test k ≡ true → ((g : ℕ) → a ≤ g → g < k → test g ≡ false)
    → find test (range_with_len a n) ≡ Some k
range-first test a zero k low high on none = absurd (omega arith)
range-first test a (suc n) k low high on none =
    elim (cases_eq a k) [
      | inl here ↦ ap (λ b. cond b (Some a) (find test (range_with_len (a + 1) n))) (ap test here ∙ on) ∙ ap Some here
      | inr other ↦
          ap (λ b. cond b (Some a) (find test (range_with_len (a + 1) n))) (none a (omega arith) (omega arith))
          ∙ range-first test (a + 1) n k (omega arith) (omega arith) on (λ g le lt. none g (omega arith) lt)
    ]

-- ---- the places of a word

bit_places-has : (count from bits i : ℕ) → i < count → has (bit_places count from bits) (from + i) ≡ is_set bits i
unfolding bit_places
bit_places-has count from bits i within =
    let back : from + i - from ≡ i = omega arith in
    picked-has (λ at. is_set bits (at - from)) from count (from + i) (omega arith) (omega arith) ∙ ap (is_set bits) back

bit_places-outside : (count from bits g : ℕ) → (g < from) ⊎ (from + count ≤ g) → has (bit_places count from bits) g ≡ false
unfolding bit_places
bit_places-outside count from bits g out = elim out [
  | inl below ↦ picked-below (λ at. is_set bits (at - from)) from count g below
  | inr above ↦ picked-above (λ at. is_set bits (at - from)) from count g above
]

bit_places-none : (count from : ℕ) → bit_places count from 0 ≡ []
unfolding bit_places
bit_places-none count from = picked-none (λ at. is_set 0 (at - from)) from count (λ g le. is_set-zero (g - from))

-- a bit is set besides, above all others
bit_places-more : (count from bits more k : ℕ) → k < count → is_set more k ≡ true → ((i : ℕ) → i ≢ k → is_set more i ≡ is_set bits i)
    → ((i : ℕ) → k ≤ i → is_set bits i ≡ false) → bit_places count from more ≡ bit_places count from bits ++ (from + k) ∷ []
unfolding bit_places
bit_places-more count from bits more k within on same none =
    let back : k ≡ from + k - from = omega arith in
    picked-more (λ at. is_set bits (at - from)) (λ at. is_set more (at - from)) from count (from + k) (omega arith) (omega arith)
    (subst (λ i. is_set more i ≡ true) back on) (λ g le other. same (g - from) (λ e. other (omega arith))) (λ g le. none (g - from) (omega arith))

-- the first place that passes is that of the lowest bit that does
bit_places-first : (count from bits k : ℕ) (test : ℕ → Bool) → k < count → (is_set bits k && test (from + k)) ≡ true
    → ((i : ℕ) → i < k → (is_set bits i && test (from + i)) ≡ false) → find test (bit_places count from bits) ≡ Some (from + k)
unfolding bit_places
bit_places-first count from bits k test within on none =
    let back : k ≡ from + k - from = omega arith in
    find-picked test (λ at. is_set bits (at - from)) (range_with_len from count)
    ∙ range-first (λ at. is_set bits (at - from) && test at) from count (from + k) (omega arith) (omega arith)
    (subst (λ i. (is_set bits i && test (from + k)) ≡ true) back on)
    (λ g le lt.
    let there : from + (g - from) ≡ g = omega arith in
    subst (λ h. (is_set bits (g - from) && test h) ≡ false) there (none (g - from) (omega arith)))

bit_places-without : (count from bits : ℕ) (test : ℕ → Bool) → ((i : ℕ) → i < count → (is_set bits i && test (from + i)) ≡ false)
    → find test (bit_places count from bits) ≡ None
unfolding bit_places
bit_places-without count from bits test none =
    find-picked test (λ at. is_set bits (at - from)) (range_with_len from count)
    ∙ range-none (λ at. is_set bits (at - from) && test at) from count
    (λ g low high.
    let there : from + (g - from) ≡ g = omega arith in
    subst (λ h. (is_set bits (g - from) && test h) ≡ false) there (none (g - from) (omega arith)))

-- ---- a block

-- the bits that are left of a block pass the test: the first place that does is that of the lowest of them
abbrev pub IsLeftOf : Block → (ℕ → Bool) → ℕ → Type 0
IsLeftOf b test left = (i : ℕ) → i < 32 → is_set left i ≡ (is_set b.bits i && test (32 * b.at + i))

pub block-first : (b : Block) (test : ℕ → Bool) (left k : ℕ) → IsLeftOf b test left → k < 32 → is_set left k ≡ true
    → ((i : ℕ) → i < k → is_set left i ≡ false) → find test (block_places b) ≡ Some (32 * b.at + k)
block-first b test left k is within on none =
    bit_places-first 32 (32 * b.at) b.bits k test within (sym (is k within) ∙ on) (λ i lt. sym (is i (omega arith)) ∙ none i lt)

pub block-without : (b : Block) (test : ℕ → Bool) (left : ℕ) → IsLeftOf b test left → left ≡ 0 → find test (block_places b) ≡ None
block-without b test left is gone =
    bit_places-without 32 (32 * b.at) b.bits test (λ i lt. sym (is i lt) ∙ ap (λ w. is_set w i) gone ∙ is_set-zero i)

-- a block with one bit
block-begun : (at bit : ℕ) → bit < 32 → block_places (record { at = at; bits = 1 * 2 ^ bit % 2 ^ 32 }) ≡ (32 * at + bit) ∷ []
block-begun at bit within =
    bit_places-more 32 (32 * at) 0 (1 * 2 ^ bit % 2 ^ 32) bit within
    (lone bit ∙ ap (λ b. b == 1) (bit_at_set_same w32 0 bit within))
    (λ i other. lone i ∙ ap (λ b. b == 1) (bit_at_set_other w32 0 bit within i other)) (λ i le. is_set-zero i)
    ∙ ap (λ ps. ps ++ (32 * at + bit) ∷ []) (bit_places-none 32 (32 * at))
  where
    lone : (i : ℕ) → is_set (1 * 2 ^ bit % 2 ^ 32) i ≡ is_set (bit_or 0 (1 * 2 ^ bit % 2 ^ 32)) i
    lone i = sym (is_set-or 0 (1 * 2 ^ bit % 2 ^ 32) i ∙ ap (λ b. b || is_set (1 * 2 ^ bit % 2 ^ 32) i) (is_set-zero i))

none-above : (bits bit i : ℕ) → bits / 2 ^ bit ≡ 0 → bit ≤ i → is_set bits i ≡ false
none-above bits bit i gone le = elim (cases_lt bits (2 ^ bit)) [
  | inl below ↦ ap (λ b. b == 1) (bit_at_above bits bit i below le)
  | inr above ↦ absurd (omega (arith, le-div 1 bits (2 ^ bit) (pow_pos bit) (omega arith)))
]

-- a block with a bit more
pub block-more : (at bits bit : ℕ) → bit < 32 → bits / 2 ^ bit ≡ 0
    → block_places (record { at = at; bits = bit_or bits (1 * 2 ^ bit % 2 ^ 32) }) ≡ block_places (record { at = at; bits = bits }) ++ (32 * at + bit) ∷ []
block-more at bits bit within gone =
    bit_places-more 32 (32 * at) bits (bit_or bits (1 * 2 ^ bit % 2 ^ 32)) bit within (ap (λ b. b == 1) (bit_at_set_same w32 bits bit within))
    (λ i other. ap (λ b. b == 1) (bit_at_set_other w32 bits bit within i other)) (λ i le. none-above bits bit i gone le)

-- ---- blocks

places-push : (blocks : List Block) (b : Block) → places_of (blocks ++ b ∷ []) ≡ places_of blocks ++ block_places b
places-push blocks b = flat_map-append block_places blocks (b ∷ []) ∙ ap (λ ps. places_of blocks ++ ps) (append-nil (block_places b))

-- the last block has a place more
pub places-last : (blocks : List Block) (i p : ℕ) (b d : Block) → i + 1 ≡ length blocks → block_places b ≡ block_places (get_or blocks i d) ++ p ∷ []
    → places_of (set blocks i b) ≡ places_of blocks ++ p ∷ []
places-last [] i p b d last more = absurd (omega arith)
places-last (x ∷ xs) zero p b d last more =
    let nil : xs ≡ [] = nil_from_length xs (omega arith) in
    ap (λ (bs : List Block). block_places b ++ places_of bs) nil ∙ append-nil (block_places b) ∙ more
    ∙ sym
    (ap (λ (bs : List Block). (block_places x ++ places_of bs) ++ p ∷ []) nil ∙ ap (λ ps. ps ++ p ∷ []) (append-nil (block_places x)))
places-last (x ∷ xs) (suc i) p b d last more =
    ap (λ ps. block_places x ++ ps) (places-last xs i p b d (omega arith) more) ∙ sym (append_assoc (block_places x) (places_of xs) (p ∷ []))

ascend-push : (blocks : List Block) (b : Block) → Ascend blocks → ((i : ℕ) (d : Block) → i + 1 ≡ length blocks → (get_or blocks i d).at < b.at)
    → Ascend (blocks ++ b ∷ [])
ascend-push blocks b up behind =
    all_pairs_push (λ (x y : Block). x.at < y.at) blocks b up
    (λ k d lt.
    let last : ℕ = length blocks - 1 in
    let high = behind last d (omega arith) in
    elim (cases_eq k last) [
      | inl same ↦ let here = ap (λ (n : ℕ). (get_or blocks n d).at) same in omega arith
      | inr other ↦ let below = up k last d (omega arith) (omega arith) in omega arith
    ])

-- a block behind the others, where there was memory for it
pub ascend-begun : {E : Type 0} (result : Result (Unit {0}) E) (old new : List Block) (b : Block) → OnOk result (new ≡ old ++ b ∷ []) → OnErr result (new ≡ old)
    → Ascend old → ((i : ℕ) (d : Block) → i + 1 ≡ length old → (get_or old i d).at < b.at) → Ascend new
ascend-begun (Ok done) old new b is same up behind = subst Ascend (sym is) (ascend-push old b up behind)
ascend-begun (Err e) old new b is same up behind = subst Ascend (sym same) up

pub places-begun : {E : Type 0} (result : Result (Unit {0}) E) (at bit : ℕ) (old new : List Block) → bit < 32
    → OnOk result (new ≡ old ++ record { at = at; bits = 1 * 2 ^ bit % 2 ^ 32 } ∷ []) → OnOk result (places_of new ≡ places_of old ++ (32 * at + bit) ∷ [])
places-begun (Ok done) at bit old new within is =
    ap places_of is ∙ places-push old (record { at = at; bits = 1 * 2 ^ bit % 2 ^ 32 }) ∙ ap (λ ps. places_of old ++ ps) (block-begun at bit within)
places-begun (Err e) at bit old new within is = tt

pub ascend-set : (blocks : List Block) (i : ℕ) (b : Block) → i < length blocks → ((d : Block) → b.at ≡ (get_or blocks i d).at) → Ascend blocks
    → Ascend (set blocks i b)
ascend-set blocks i b within same up j k d lt high =
    let kept : length (set blocks i b) ≡ length blocks = length-set blocks i b in
    let first = stays j d in
    let second = stays k d in
    let rises = up j k d lt (omega arith) in
    omega arith
  where
    stays : (n : ℕ) (e : Block) → (get_or (set blocks i b) n e).at ≡ (get_or blocks n e).at
    stays n e = elim (cases_eq n i) [
      | inl here ↦
          ap (λ (m : ℕ). (get_or (set blocks i b) m e).at) here ∙ ap (λ (x : Block). x.at) (get_or-set_same blocks i b e within) ∙ same e
          ∙ sym (ap (λ (m : ℕ). (get_or blocks m e).at) here)
      | inr other ↦ ap (λ (x : Block). x.at) (get_or-set_other blocks i n b e other)
    ]

elsewhere : (b : Block) (at i : ℕ) → i < 32 → b.at ≢ at → has (block_places b) (32 * at + i) ≡ false
elsewhere b at i within other = elim (cases_lt at b.at) [
  | inl below ↦ bit_places-outside 32 (32 * b.at) b.bits (32 * at + i) (inl (omega arith))
  | inr above ↦ bit_places-outside 32 (32 * b.at) b.bits (32 * at + i) (inr (omega arith))
]

-- where there is no such block none of its places is listed
pub places-nowhere : (blocks : List Block) (at i : ℕ) → i < 32 → HasNone blocks at → has (places_of blocks) (32 * at + i) ≡ false
places-nowhere [] at i within none = refl
places-nowhere (b ∷ bs) at i within none =
    list_any-append (λ h. eqb h (32 * at + i)) (block_places b) (places_of bs)
    ∙ or_from (has (block_places b) (32 * at + i)) (has (places_of bs) (32 * at + i)) (elsewhere b at i within (none 0 b (omega arith)))
    (places-nowhere bs at i within (λ k d lt. none (suc k) d (omega arith)))

or-none : (x y : Bool) → y ≡ false → (x || y) ≡ x
or-none true y off = refl
or-none false y off = off

-- and where there is one its bits tell, since no other has them
pub places-here : (blocks : List Block) (at i here : ℕ) (d : Block) → i < 32 → Ascend blocks → here < length blocks → (get_or blocks here d).at ≡ at
    → has (places_of blocks) (32 * at + i) ≡ is_set (get_or blocks here d).bits i
places-here [] at i here d within up lt same = absurd (omega arith)
places-here (b ∷ bs) at i zero d within up lt same =
    list_any-append (λ h. eqb h (32 * at + i)) (block_places b) (places_of bs)
    ∙ or-none (has (block_places b) (32 * at + i)) (has (places_of bs) (32 * at + i))
    (places-nowhere bs at i within (λ k e low. λ equal. let above = up 0 (suc k) e (omega arith) (omega arith) in absurd (omega arith)))
    ∙ subst (λ n. has (block_places b) (32 * n + i) ≡ is_set b.bits i) same (bit_places-has 32 (32 * b.at) b.bits i within)
places-here (b ∷ bs) at i (suc here) d within up lt same =
    let above = up 0 (suc here) d (omega arith) lt in
    list_any-append (λ h. eqb h (32 * at + i)) (block_places b) (places_of bs)
    ∙ ap (λ x. x || has (places_of bs) (32 * at + i)) (elsewhere b at i within (λ equal. absurd (omega arith)))
    ∙ places-here bs at i here d within (λ j k e low high. up (suc j) (suc k) e (omega arith) (omega arith)) (omega arith) same

-- none stands behind the last
pub none-behind : (blocks : List Block) (at : ℕ) (e : Block) → Ascend blocks → blocks ≢ [] → (get_or blocks (length blocks - 1) e).at < at → HasNone blocks at
none-behind blocks at e up some below i d lt same =
    let last : ℕ = length blocks - 1 in
    let most : (get_or blocks last d).at < at = subst (λ (b : Block). b.at < at) (get_or_default blocks last e d (omega arith)) below in
    elim (cases_eq i last) [
      | inl here ↦ let equal = ap (λ (n : ℕ). (get_or blocks n d).at) here in absurd (omega arith)
      | inr other ↦ let rises = up i last d (omega arith) (omega arith) in absurd (omega arith)
    ]

-- what was read at the end is the last block
pub last-below : (blocks : List Block) (count at : ℕ) (b : Block) → count ≡ length blocks → b ≡ get_or blocks (count - 1) b → b.at < at
    → (i : ℕ) (d : Block) → i + 1 ≡ length blocks → (get_or blocks i d).at < at
last-below blocks count at b counts read below i d ends =
    let place : count - 1 ≡ i = omega arith in
    let is : b ≡ get_or blocks i d = get_or_read blocks (count - 1) b (omega arith) read d ∙ ap (λ (n : ℕ). get_or blocks n d) place in
    subst (λ (x : Block). x.at < at) is below

-- ---- halving

pub halved_ok : (blocks : List Block) (at here : ℕ) → IsSearchInRange (Ok here) (length blocks) → IsBinarySearchResult (λ (b : Block). nat_cmp b.at at) blocks (Ok here)
    → IsAt blocks at here
halved_ok blocks at here within equal = record { within = within; same = halved_here (λ (b : Block). b.at) blocks at here equal }

pub halved_err : (blocks : List Block) (at here : ℕ) → Ascend blocks → IsBinarySearchResult (λ (b : Block). nat_cmp b.at at) blocks (Err here)
    → HasNone blocks at
halved_err blocks at here up parted = halved_nowhere (λ (b : Block). b.at) blocks at here up parted
