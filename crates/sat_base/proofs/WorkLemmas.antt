-- Lemmas on work lists: a heap's order, and what its calls leave, in terms of members.
use Rattle.std.proofs.Common.{◌≡◌, ◌≢◌, ◌↔◌, ℕ, zero, suc, ◌<◌, ◌≤◌, IsTrue, eqb, eq-eqb, List, [], ◌∷◌, length, get_or, refl, sym, ◌∙◌, subst, inl, inr, arith, All}
use Rattle.std.proofs.lemmas.Bool.{eqb-true}
use Rattle.std.specs.BinaryHeap.{IsHeap, IsUpperBound, PopsGreatest}
use Rattle.std.specs.Ordering.{nat_cmp}
use Rattle.std.specs.List.Sorted.{IsPermutation}
use Rattle.std.proofs.lemmas.List.Sorted.{IsPermutation-sym, All-permutation, le_from_greatest}
use Rattle.sat_base.specs.Members.{In}
use Rattle.sat_base.specs.Work.{HasMore, IsUpperBoundOf, IsGreatest, LosesCopies}

-- what holds of each element holds of a member
pub at_In : {X : Type 0} (P : X → Type 0) (xs : List X) (x : X) → All P xs → In x xs → P x
at_In P [] x a h = absurd h
at_In P (y ∷ ys) x a (inl e) = subst P (sym e) (a 0 y (omega arith))
at_In P (y ∷ ys) x a (inr h) = at_In P ys x (λ k d lt. a (suc k) d (omega arith)) h

-- each element is a member
pub each_In : {X : Type 0} (xs : List X) → All (λ x. In x xs) xs
each_In [] k d lt = absurd (omega arith)
each_In (y ∷ ys) zero d lt = inl refl
each_In (y ∷ ys) (suc k) d lt = inr (each_In ys k d (omega arith))

-- a permutation has the same members
pub In-permutation : {X : Type 0} (xs ys : List X) (x : X) → IsPermutation xs ys → In x xs → In x ys
In-permutation xs ys x moved h = at_In (λ y. In y ys) xs x (All-permutation (λ y. In y ys) ys xs (IsPermutation-sym xs ys moved) (each_In ys)) h

pub bound_of : (numbers : List ℕ) (n : ℕ) → IsUpperBound nat_cmp n numbers → IsUpperBoundOf numbers n
bound_of numbers n h m i = at_In (λ k. k ≤ n) numbers m (le_from_greatest n numbers h) i

pub more_of : (old new : List ℕ) (n : ℕ) → IsPermutation (n ∷ old) new → HasMore old new n
more_of old new n moved m = (In-permutation new (n ∷ old) m (IsPermutation-sym (n ∷ old) new moved), In-permutation (n ∷ old) new m moved)

-- the first number of a heap is its greatest
pub greatest_of : (numbers : List ℕ) (n : ℕ) → 0 < length numbers → n ≡ get_or numbers 0 n → IsUpperBound nat_cmp n numbers → IsGreatest numbers n
greatest_of numbers n some first h =
    record { has = subst (λ k. In k numbers) (sym first) (each_In numbers 0 n some); above = bound_of numbers n h }

-- what is left of a heap while copies of its greatest number are taken out
pub record IsLeft (n : ℕ) (old new : List ℕ) : Type 0 where
  pub heap : IsHeap nat_cmp new
  pub bound : IsUpperBoundOf new n
  pub inside : (m : ℕ) → In m new → In m old
  pub others : (m : ℕ) → m ≢ n → In m old → In m new

pub left_start : (n : ℕ) (numbers : List ℕ) → IsHeap nat_cmp numbers → IsUpperBoundOf numbers n → IsLeft n numbers numbers
left_start n numbers heap bound = record { heap = heap; bound = bound; inside = λ m i. i; others = λ m other i. i }

-- one more copy is taken out
pub left_more : (n x : ℕ) (old now new : List ℕ) → IsLeft n old now → In n now → IsPermutation now (x ∷ new) → PopsGreatest nat_cmp now x new → IsLeft n old new
left_more n x old now new h here moved pops =
    let popped = pops h.heap in
    let at_most : x ≤ n = h.bound x (In-permutation (x ∷ new) now x (IsPermutation-sym now (x ∷ new) moved) (inl refl)) in
    let at_least : n ≤ x = bound_of now x popped.1 n here in
    let same : x ≡ n = omega arith in
    let was : (m : ℕ) → In m new → In m now = λ m i. In-permutation (x ∷ new) now m (IsPermutation-sym now (x ∷ new) moved) (inr i) in
    record {
      heap = popped.0;
      bound = λ m i. h.bound m (was m i);
      inside = λ m i. h.inside m (was m i);
      others = λ m other i.
          elim (In-permutation now (x ∷ new) m moved (h.others m other i)) [
            | inl is ↦ absurd (other (is ∙ same))
            | inr later ↦ later
          ];
    }

-- none is left
pub copies_lost : (n : ℕ) (old new : List ℕ) → IsLeft n old new → (In n new → ⊥) → LosesCopies old new n
copies_lost n old new h none m =
    (λ i. (h.inside m i, λ same. none (subst (λ k. In k new) same i)), λ (i, other). h.others m other i)

-- the greatest number is taken out, and then its copies
pub taken_of : (n : ℕ) (old rest new : List ℕ) → IsPermutation old (n ∷ rest) → LosesCopies rest new n → LosesCopies old new n
taken_of n old rest new moved lost m = (
  λ i. let (was, other) = (lost m).0 i in (In-permutation (n ∷ rest) old m (IsPermutation-sym old (n ∷ rest) moved) (inr was), other),
  λ (i, other).
      elim (In-permutation old (n ∷ rest) m moved i) [
        | inl same ↦ absurd (other same)
        | inr later ↦ (lost m).1 (later, other)
      ],
)

-- a number that no number is above is there where the greatest is this number
pub tells_copy : (numbers : List ℕ) (first n : ℕ) → IsUpperBoundOf numbers n → IsGreatest numbers first → IsTrue (eqb first n) ↔ In n numbers
tells_copy numbers first n bound h = (
  λ t. subst (λ k. In k numbers) (eqb-true first n t) h.has,
  λ i. let at_most = bound first h.has in let at_least = h.above n i in eq-eqb first n (omega arith),
)
