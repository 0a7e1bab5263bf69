-- Rounds of a search.
use Rattle.std.proofs.Common.{◌≡◌, ℕ, ◌+◌, ◌-◌, ◌*◌, ◌<◌, ◌≤◌, List, length, Option, Some, None, refl, ap, subst, inl, inr, arith}
use Rattle.std.specs.Prelude.{ℤ, Result, Ok, Err, IfOk}
use Rattle.trail_book.proofs.TrailLemmas.{trail_room}
use Rattle.cdcl_core.specs.declared.search.Search.{Search}
use Rattle.cdcl_core.specs.declared.solved.Solved.{Solved}
use Rattle.cdcl_core.specs.Search.{GoesOn, IsRound}

measure_paid : (left before a b vars : ℕ) → left < before → a ≤ vars → left * (vars + 1) + a < before * (vars + 1) + b
measure_paid left before a b vars h fits = let more : (left + 1) * (vars + 1) ≤ before * (vars + 1) = grind arith in omega (arith, more, fits)

-- a round that goes on makes the measure smaller
pub smaller : (old new : Search) (assumed : List ℤ) (before left : ℕ) → new.trail.vars ≡ old.trail.vars → GoesOn old new assumed before left
    → left * (new.trail.vars + 1) + (new.trail.vars - length new.trail.entries) < before * (old.trail.vars + 1) + (old.trail.vars - length old.trail.entries)
smaller old new assumed before left same o =
    subst (λ (n : ℕ). left * (new.trail.vars + 1) + (new.trail.vars - length new.trail.entries) < before * (n + 1) + (n - length old.trail.entries)) (same) (elim o.progress [
      | inl p ↦ measure_paid left before (new.trail.vars - length new.trail.entries) (new.trail.vars - length old.trail.entries) new.trail.vars p (omega arith)
      | inr p ↦
          (let equal = p.0 in
          let longer = p.1 in
          let room = trail_room new.trail.vars new.trail.entries o.search.state.trail in
          let first : left * (new.trail.vars + 1) ≡ before * (new.trail.vars + 1) = ap (λ (n : ℕ). n * (new.trail.vars + 1)) equal in
          omega (arith, first, longer, room))
    ])

-- what is said of the search after propagation is said of the one before it
pub round_grown : (old mid new : Search) (assumed : List ℤ) (before left : ℕ) (answer : Option Solved) → length old.trail.entries ≤ length mid.trail.entries → IsRound mid new assumed before left answer
    → IsRound old new assumed before left answer
round_grown old mid new assumed before left (Some answer) h k = k
round_grown old mid new assumed before left None h k = record {
  search = k.search;
  progress = elim k.progress [ inl p ↦ inl p | inr p ↦ inr (p.0, (let q = p.1 in omega (arith, q, h))) ];
}

pub round_grown_ok : {E : Type 0} (old mid new : Search) (assumed : List ℤ) (before left : ℕ) (r : Result (Option Solved) E) → length old.trail.entries ≤ length mid.trail.entries
    → IfOk r (λ answer. IsRound mid new assumed before left answer) → IfOk r (λ answer. IsRound old new assumed before left answer)
round_grown_ok old mid new assumed before left (Ok answer) h k = round_grown old mid new assumed before left answer h k
round_grown_ok old mid new assumed before left (Err e) h k = k

pub round_at : {E : Type 0} (old new : Search) (assumed : List ℤ) (left : ℕ) (r : Result (Option Solved) E) → IfOk r (λ answer. (left : ℕ) → IsRound old new assumed left left answer)
    → IfOk r (λ answer. IsRound old new assumed left left answer)
round_at old new assumed left (Ok answer) h = h left
round_at old new assumed left (Err e) h = h

pub goes_on : (old new : Search) (assumed : List ℤ) (before left : ℕ) (answer : Option Solved) → ((a : Solved) → answer ≡ Some a → ⊥) → IsRound old new assumed before left answer → GoesOn old new assumed before left
goes_on old new assumed before left None ended h = h
goes_on old new assumed before left (Some a) ended h = absurd (ended a refl)
