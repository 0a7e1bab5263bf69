-- The oldest entries of a trail, and those up to a level.
use Rattle.std.proofs.Common.{◌≡◌, ℕ, zero, suc, ◌+◌, ◌-◌, ◌<◌, ◌≤◌, List, [], ◌∷◌, length, drop, refl, sym, ◌∙◌, ap, subst, inl, inr, arith}
use Rattle.std.specs.Prelude.{ℤ, pos, negsuc, neg_ℤ}
use Rattle.sat_base.specs.Literals.{IsLiteral, var_of}
use Rattle.std.proofs.lemmas.Bool.{cases_lt}
use Rattle.std.proofs.lemmas.Bool.Decides.{leb_tells}
use Rattle.sat_base.specs.Members.{In}
use Rattle.trail_book.specs.declared.entry.Entry.{Entry}
use Rattle.trail_book.specs.Trail.{trues, top, keep, oldest, IsTrail}
use Rattle.trail_book.proofs.TrailLemmas.{keep-whole, keep-skip, top-keep, lit-keep_in, level_after-at_least}
use Rattle.trail_book.proofs.PlaceLemmas.{oldest_skip, oldest_whole}

-- ---- the oldest entries

past : (l : ℤ) (k : ℕ) (xs : List Entry) → In l (trues (drop k xs)) → In l (trues xs)
past l zero xs h = h
past l (suc k) [] h = h
past l (suc k) (y ∷ ys) h = inr (past l k ys h)

drop_more : (l : ℤ) (i j : ℕ) (xs : List Entry) → i ≤ j → In l (trues (drop j xs)) → In l (trues (drop i xs))
drop_more l zero j xs le h = past l j xs h
drop_more l (suc i) zero xs le h = absurd (omega (arith, le))
drop_more l (suc i) (suc j) [] le h = h
drop_more l (suc i) (suc j) (y ∷ ys) le h = drop_more l i j ys (omega (arith, le)) h

pub oldest_more : (l : ℤ) (m n : ℕ) (es : List Entry) → m ≤ n → In l (trues (oldest m es)) → In l (trues (oldest n es))
oldest_more l m n es le h = drop_more l (length es - n) (length es - m) es (omega (arith, le)) h

pub oldest_in : (l : ℤ) (n : ℕ) (es : List Entry) → In l (trues (oldest n es)) → In l (trues es)
oldest_in l n es h = past l (length es - n) es h

pub trail_oldest : (vars n : ℕ) (es : List Entry) → IsTrail vars es → IsTrail vars (oldest n es)
trail_oldest vars n es t = go (length es - n) es t
  where
    go : (k : ℕ) (xs : List Entry) → IsTrail vars xs → IsTrail vars (drop k xs)
    go zero xs h = h
    go (suc k) [] h = h
    go (suc k) (x ∷ xs) h = go k xs h.2

-- ---- those up to a level

pub keep_shorter : (k : ℕ) (es : List Entry) → length (keep k es) ≤ length es
keep_shorter k [] = omega arith
keep_shorter k (e ∷ es) = elim (leb_tells (top (e ∷ es)) k) [
  | inl whole ↦ let same = ap length (keep-whole k (e ∷ es) whole.1) in omega (arith, same)
  | inr above ↦ let less = keep_shorter k es in let same = ap length (keep-skip k e es above.1) in omega (arith, same, less)
]

-- those up to a level are the oldest ones, as many as they are
pub keep_oldest : (k : ℕ) (es : List Entry) → keep k es ≡ oldest (length (keep k es)) es
keep_oldest k [] = refl
keep_oldest k (e ∷ es) = elim (leb_tells (top (e ∷ es)) k) [
  | inl whole ↦
      let same = keep-whole k (e ∷ es) whole.1 in
      same ∙ sym (oldest_whole (e ∷ es) (length (keep k (e ∷ es))) (ap length same))
  | inr above ↦
      let same = keep-skip k e es above.1 in
      let shorter = keep_shorter k es in
      same ∙ keep_oldest k es ∙ sym (oldest_skip e es (length (keep k es)) shorter) ∙ ap (λ (xs : List Entry). oldest (length xs) (e ∷ es)) (sym same)
]

-- the oldest ones of them are the oldest ones of all
pub oldest_keep : (n k : ℕ) (es : List Entry) → n ≤ length (keep k es) → oldest n (keep k es) ≡ oldest n es
oldest_keep n k [] h = refl
oldest_keep n k (e ∷ es) h = elim (leb_tells (top (e ∷ es)) k) [
  | inl whole ↦ ap (oldest n) (keep-whole k (e ∷ es) whole.1)
  | inr above ↦
      let same = keep-skip k e es above.1 in
      let fewer : n ≤ length (keep k es) = subst (λ (xs : List Entry). n ≤ length xs) same h in
      let shorter = keep_shorter k es in
      ap (oldest n) same ∙ oldest_keep n k es fewer ∙ sym (oldest_skip e es n (omega (arith, fewer, shorter)))
]

pub keep_lower : (k n : ℕ) (es : List Entry) → k ≤ n → keep k (keep n es) ≡ keep k es
keep_lower k n [] h = refl
keep_lower k n (e ∷ es) h = elim (leb_tells (top (e ∷ es)) n) [
  | inl whole ↦ ap (keep k) (keep-whole n (e ∷ es) whole.1)
  | inr above ↦ ap (keep k) (keep-skip n e es above.1) ∙ keep_lower k n es h ∙ sym (keep-skip k e es (omega (arith, above.1, h)))
]

pub keep_higher : (k n : ℕ) (es : List Entry) → n ≤ k → keep k (keep n es) ≡ keep n es
keep_higher k n es h = let low = top-keep n es in keep-whole k (keep n es) (omega (arith, low, h))

-- ---- one entry more

pub keep_push : (k : ℕ) (e : Entry) (es : List Entry) (l : ℤ) → In l (trues (keep k es)) → In l (trues (keep k (e ∷ es)))
keep_push k e es l i = elim (leb_tells (top (e ∷ es)) k) [
  | inl whole ↦ subst (λ (xs : List Entry). In l (trues xs)) (sym (keep-whole k (e ∷ es) whole.1)) (inr (lit-keep_in k es l i))
  | inr above ↦ subst (λ (xs : List Entry). In l (trues xs)) (sym (keep-skip k e es above.1)) i
]

-- what is of an older entry is of its level
pub keep_pop : (k : ℕ) (e : Entry) (es : List Entry) (l : ℤ) → In l (trues es) → In l (trues (keep k (e ∷ es))) → In l (trues (keep k es))
keep_pop k e es l old i = elim (leb_tells (top (e ∷ es)) k) [
  | inl whole ↦
      let more = level_after-at_least e.reason (top es) in
      subst (λ (xs : List Entry). In l (trues xs)) (sym (keep-whole k es (omega (arith, more, whole.1)))) old
  | inr above ↦ subst (λ (xs : List Entry). In l (trues xs)) (keep-skip k e es above.1) i
]

-- ---- the value that is next to be propagated

-- a literal stands once
pub once : (vars : ℕ) (es : List Entry) (l : ℤ) (ls : List ℤ) → IsTrail vars es → trues es ≡ l ∷ ls → ¬ In l ls
once vars [] l ls t e i = nil_cons e
  where
    nil_cons : ◌≡◌ {A = List ℤ} [] (l ∷ ls) → ⊥
    nil_cons e = cc
once vars (x ∷ xs) l ls t e i =
    t.0.not_true (subst (λ (ms : List ℤ). In x.lit ms) (sym (tails (trues xs) ls x.lit l e)) (subst (λ (m : ℤ). In m ls) (sym (heads (trues xs) ls x.lit l e)) i))
  where
    head_or : ℤ → List ℤ → ℤ
    head_or d [] = d
    head_or d (m ∷ ms) = m

    heads : (ms ls : List ℤ) (m l : ℤ) → m ∷ ms ≡ l ∷ ls → m ≡ l
    heads ms ls m l e = ap (head_or m) e

    tails : (ms ls : List ℤ) (m l : ℤ) → m ∷ ms ≡ l ∷ ls → ms ≡ ls
    tails ms ls m l e = ap (drop 1) e

-- what is next to be propagated is of the top level
pub waits_at_top : (vars done : ℕ) (es : List Entry) (l : ℤ) → IsTrail vars es → trues (oldest (done + 1) es) ≡ l ∷ trues (oldest done es)
    → ((level : ℕ) → level < top es → length (keep level es) ≤ done) → (level : ℕ) → In l (trues (keep level es)) → keep level es ≡ es
waits_at_top vars done es l t now fresh level i = elim (cases_lt level (top es)) [
  | inl below ↦
      let early = subst (λ (xs : List Entry). In l (trues xs)) (keep_oldest level es) i in
      let was = oldest_more l (length (keep level es)) done es (fresh level below) early in
      absurd (once vars (oldest (done + 1) es) l (trues (oldest done es)) (trail_oldest vars (done + 1) es t) now was)
  | inr not_below ↦ keep-whole level es (omega (arith, not_below))
]

-- ---- its negation

pub literal_neg : (vars : ℕ) (l : ℤ) → IsLiteral vars l → IsLiteral vars (neg_ℤ l)
literal_neg vars l is = record { not_zero = subst (λ (n : ℕ). 0 < n) (sym (var_neg l)) is.not_zero; in_range = subst (λ (n : ℕ). n ≤ vars) (sym (var_neg l)) is.in_range }
  where
    var_neg : (x : ℤ) → var_of (neg_ℤ x) ≡ var_of x
    var_neg (pos zero) = refl
    var_neg (pos (suc n)) = refl
    var_neg (negsuc n) = refl
