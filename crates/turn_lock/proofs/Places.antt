-- Lists by their places, and the stages of a seat.
use Rattle.std.proofs.Common.{◌≡◌, ℕ, zero, suc, ◌+◌, ◌<◌, ◌≢◌, ◌⊎◌, Bool, true, false, cond, List, [], ◌∷◌, ◌++◌, length, get_or, set, count_by, refl, sym, ap, ◌∙◌, subst, inl, inr, ⊎_elim, arith, true≢false}
use Rattle.std.proofs.lemmas.List.Sums.{sum_by-set}
use mathlib.Core.Option.{some, some-injective, some-ne-none}
use lib.ListN.{get_elem?}
use Rattle.turn_lock.specs.declared.view.Stage.{Stage}
use Rattle.turn_lock.specs.declared.view.Stage.TheVariants.{Idle, Waits, Holds, Spent}
use Rattle.turn_lock.specs.Rule.{ticket_of}
use Rattle.turn_lock.specs.Seats.{made_at}

module _ {A : Type 0} where
  -- one place has one value
  pub one_value : (l : List A) (i j : ℕ) (a b : A) → get_elem? l i ≡ some a → get_elem? l j ≡ some b → i ≡ j → a ≡ b
  one_value l i j a b p q e = some-injective a b (sym p ∙ (ap (λ k. get_elem? l k) e ∙ q))

  pub within : (l : List A) (i : ℕ) (a : A) → get_elem? l i ≡ some a → i < length l
  within [] i a e = absurd (some-ne-none a (sym e))
  within (x ∷ xs) zero a e = omega arith
  within (x ∷ xs) (suc i) a e = let h = within xs i a e in omega arith

  pub value_at : (l : List A) (i : ℕ) (a d : A) → get_elem? l i ≡ some a → get_or l i d ≡ a
  value_at [] i a d e = absurd (some-ne-none a (sym e))
  value_at (x ∷ xs) zero a d e = some-injective x a e
  value_at (x ∷ xs) (suc i) a d e = value_at xs i a d e

  -- a value written over another changes a count by what the two count
  pub recount : (p : A → Bool) (l : List A) (i : ℕ) (a b : A) → get_elem? l i ≡ some a → count_by p (set l i b) + cond (p a) 1 0 ≡ count_by p l + cond (p b) 1 0
  recount p l i a b e =
      let one : A → ℕ = λ x. cond (p x) 1 0 in subst (λ x. count_by p (set l i b) + one x ≡ count_by p l + one b) (value_at l i a b e) (sum_by-set one l i b b (within l i a e))

  -- a list with one value more has it last
  pub old_or_last : (l : List A) (a b : A) (j : ℕ) → get_elem? (l ++ a ∷ []) j ≡ some b → (get_elem? l j ≡ some b) ⊎ ((j ≡ length l) × (a ≡ b))
  old_or_last [] a b zero e = inr (refl, some-injective a b e)
  old_or_last [] a b (suc j) e = absurd (some-ne-none b (sym e))
  old_or_last (x ∷ xs) a b zero e = inl e
  old_or_last (x ∷ xs) a b (suc j) e = ⊎_elim (λ t. inl t) (λ (t : (j ≡ length xs) × (a ≡ b)). let n = t.0 in inr (omega arith, t.1)) (old_or_last xs a b j e)

  pub only_place : (a b : A) (j : ℕ) → get_elem? (a ∷ []) j ≡ some b → (j ≡ 0) × (a ≡ b)
  only_place a b zero e = (refl, some-injective a b e)
  only_place a b (suc j) e = absurd (some-ne-none b (sym e))

abbrev pub is_spent : Stage → Bool
is_spent Idle = false
is_spent (Waits t) = false
is_spent (Holds t) = false
is_spent Spent = true

abbrev pub is_out : Stage → Bool
is_out Idle = false
is_out (Waits t) = false
is_out (Holds t) = true
is_out Spent = false

pub lives_idle : (st : Stage) → st ≡ Idle → st ≢ Spent
lives_idle st e is = true≢false (sym (ap is_spent is) ∙ ap is_spent e)

-- a stage with a ticket is not spent
pub lives_with : (st : Stage) (x : ℕ) → ticket_of st ≡ some x → st ≢ Spent
lives_with st x e is = some-ne-none x (sym e ∙ ap ticket_of is)

-- a seat that knows how many were made is the first
pub first_knows : (j n m : ℕ) → m ≡ made_at j n → 0 < m → (j ≡ 0) × (m ≡ n)
first_knows zero n m e some_made = (refl, e)
first_knows (suc j) n m e some_made = absurd (omega arith)

pub later_knows_nothing : (j n : ℕ) → 0 < j → 0 ≡ made_at j n
later_knows_nothing zero n later = absurd (omega arith)
later_knows_nothing (suc j) n later = refl

-- no other seat knows how many were made, so it is nothing to it that there is one more
pub others_know_nothing : (j n n' : ℕ) → j ≢ 0 → made_at j n ≡ made_at j n'
others_know_nothing zero n n' other = absurd (other refl)
others_know_nothing (suc j) n n' other = refl
