-- A list of entries, caller by caller.
use Rattle.std.proofs.Common.{◌≡◌, ℕ, zero, suc, ◌+◌, ◌*◌, ◌<◌, ◌≤◌, ◌≢◌, ◌==◌, Bool, true, false, cond, List, [], ◌∷◌, length, All, sym, refl, ap, ◌∙◌, subst, arith, eq-eqb, ne_eqb, suc-mul}
use Rattle.std.proofs.lemmas.List.Elements.{All-head, All-tail, All-cons, All-nil}
use mathlib.Core.Logic.{dite}
use native.Mathlib.Decide.{ℕ_discrete}
use Rattle.turn_lock.specs.Calls.{calls_by}

-- what f gives of the numbers below n, together
abbrev pub total_of : (ℕ → ℕ) → ℕ → ℕ
total_of f zero = 0
total_of f (suc n) = total_of f n + f n

total_of-same : (f g : ℕ → ℕ) (n : ℕ) → ((k : ℕ) → k < n → f k ≡ g k) → total_of f n ≡ total_of g n
total_of-same f g zero same = refl
total_of-same f g (suc n) same = let front = total_of-same f g n (λ k low. same k (omega arith)) in let last = same n (omega arith) in omega arith

pub total_of-even : (f : ℕ → ℕ) (m n : ℕ) → ((k : ℕ) → k < n → f k ≡ m) → total_of f n ≡ n * m
total_of-even f m zero each = omega arith
total_of-even f m (suc n) each = let front = total_of-even f m n (λ k low. each k (omega arith)) in let last = each n (omega arith) in omega (arith, suc-mul n m)

pub total_of-at_most : (f : ℕ → ℕ) (m n : ℕ) → ((k : ℕ) → f k ≤ m) → total_of f n ≤ n * m
total_of-at_most f m zero each = omega arith
total_of-at_most f m (suc n) each = let front = total_of-at_most f m n each in let last = each n in omega (arith, suc-mul n m)

module _ {E : Type 0} (caller : E → ℕ) where
  -- the entries of all callers but n
  without : ℕ → List E → List E
  without n [] = []
  without n (e ∷ es) = cond (caller e == n) (without n es) (e ∷ without n es)

  parted : (n : ℕ) (es : List E) → length es ≡ length (calls_by caller n es) + length (without n es)
  unfolding without
  parted n [] = refl
  parted n (e ∷ es) = let h = parted n es in dite (ℕ_discrete (caller e) n) (λ y. rw (eq-eqb (caller e) n y) (omega arith)) (λ z. rw (ne_eqb (caller e) n z) (omega arith))

  below_last : (n : ℕ) (es : List E) → All (λ e. caller e < suc n) es → All (λ e. caller e < n) (without n es)
  unfolding without
  below_last n [] h = All-nil (λ e. caller e < n)
  below_last n (e ∷ es) h =
      let rest = below_last n es (All-tail (λ e. caller e < suc n) e es h) in
      let low : caller e < suc n = All-head (λ e. caller e < suc n) e es h in
      dite (ℕ_discrete (caller e) n) (λ y. rw (eq-eqb (caller e) n y) rest) (λ z. rw (ne_eqb (caller e) n z) (All-cons (λ e. caller e < n) e (without n es) (omega arith) rest))

  others_stay : (n k : ℕ) (es : List E) → k ≢ n → calls_by caller k (without n es) ≡ calls_by caller k es
  unfolding without
  others_stay n k [] other = refl
  others_stay n k (e ∷ es) other =
      let h = others_stay n k es other in
      dite (ℕ_discrete (caller e) n)
      (λ y. rw (eq-eqb (caller e) n y) (h ∙ sym (ap (λ (b : Bool). cond b (e ∷ calls_by caller k es) (calls_by caller k es)) (ne_eqb (caller e) k (λ z. other (sym z ∙ y))))))
      (λ y. rw (ne_eqb (caller e) n y) (ap (λ (l : List E). cond (caller e == k) (e ∷ l) l) h))

  -- the entries are those of the callers below n, together
  pub length-callers : (n : ℕ) (es : List E) → All (λ e. caller e < n) es → length es ≡ total_of (λ k. length (calls_by caller k es)) n
  length-callers zero [] h = refl
  length-callers zero (e ∷ es) h = let low = All-head (λ e. caller e < zero) e es h in absurd (omega arith)
  length-callers (suc n) es h =
      let rest = length-callers n (without n es) (below_last n es h) in
      let same = total_of-same (λ k. length (calls_by caller k (without n es))) (λ k. length (calls_by caller k es)) n (λ k low. ap length (others_stay n k es (λ e. omega arith))) in
      let s = parted n es in omega arith

  rest_of : (P : E → Type 0) (k : ℕ) (e : E) (es : List E) → All P (calls_by caller k (e ∷ es)) → All P (calls_by caller k es)
  rest_of P k e es h =
      let step : (b : Bool) → (caller e == k) ≡ b → calls_by caller k (e ∷ es) ≡ cond b (e ∷ calls_by caller k es) (calls_by caller k es) = λ b is. ap (λ (c : Bool). cond c (e ∷ calls_by caller k es) (calls_by caller k es)) is in
      dite (ℕ_discrete (caller e) k)
      (λ y. All-tail P e (calls_by caller k es) (subst (All P) (step true (eq-eqb (caller e) k y)) h))
      (λ z. subst (All P) (step false (ne_eqb (caller e) k z)) h)

  first_of : (P : E → Type 0) (e : E) (es : List E) → All P (calls_by caller (caller e) (e ∷ es)) → P e
  first_of P e es h =
      let mine : calls_by caller (caller e) (e ∷ es) ≡ e ∷ calls_by caller (caller e) es =
      ap (λ (b : Bool). cond b (e ∷ calls_by caller (caller e) es) (calls_by caller (caller e) es)) (eq-eqb (caller e) (caller e) refl) in
      All-head P e (calls_by caller (caller e) es) (subst (All P) mine h)

  -- what holds of each caller's entries holds of all
  pub of_all_callers : (P : E → Type 0) (n : ℕ) (es : List E) → All (λ e. caller e < n) es → ((k : ℕ) → k < n → All P (calls_by caller k es)) → All P es
  of_all_callers P n [] h each = All-nil P
  of_all_callers P n (e ∷ es) h each = All-cons P e es (first_of P e es (each (caller e) (All-head (λ e. caller e < n) e es h)))
      (of_all_callers P n es (All-tail (λ e. caller e < n) e es h) (λ k low. rest_of P k e es (each k low)))
