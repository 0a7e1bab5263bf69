-- Workers before their turns, and after them.
use Rattle.std.proofs.Common.{◌≡◌, ℕ, zero, suc, ◌<◌, ◌≤◌, List, [], ◌∷◌, ◌++◌, length, map, get_or, remove, take, All, sym, refl, ap, ◌∙◌, subst, arith}
use Rattle.std.proofs.lemmas.List.{get_or-map, length-map}
use Rattle.std.proofs.Math.Seq.{take-append_seam}
use Rattle.turn_lock.specs.Seats.{LockView, SeatView, AreNew}
use Rattle.lock_tally.specs.declared.tally.Added.{Added}
use Rattle.lock_tally.specs.declared.worker.Worker.{Worker}
use Rattle.lock_tally.specs.Tallies.{reply_of}
use Rattle.lock_tally.specs.Works.{CanWork, HasWorked}
use Rattle.lock_tally.specs.Crews.{seat_of, IsReady, IsNew, AreHired, IsDone, AreDone}

-- a worker for each new seat of the lock
pub are_hired : (l : LockView ℕ) (count turns : ℕ) (seats : List (SeatView Added ℕ)) (ws : List Worker) → l.opening ≡ count → AreNew l count seats → map seat_of ws ≡ seats → All (IsReady turns) ws → AreHired l count turns ws
are_hired l count turns seats ws opening new same ready =
    let size : length ws ≡ count = sym (length-map ws seat_of) ∙ (ap length same ∙ new.count_is) in
    record {
      opening = opening;
      count_is = size;
      each = λ k d low.
          let inside : k < length ws = omega arith in
          let inside' : k < length seats = let s = new.count_is in omega arith in
          record { seat = sym (get_or-map seat_of ws k d (seat_of d) inside) ∙ (ap (λ (z : List (SeatView Added ℕ)). get_or z k (seat_of d)) same ∙ new.each k (seat_of d) inside'); ready = ready k d inside };
    }

-- a new worker may make all its turns
pub can_work : (l : LockView ℕ) (count turns k : ℕ) (w : Worker) → l.opening ≡ count → IsNew l count turns k w → k < count → turns ≤ 100 → CanWork l turns w
can_work l count turns k w opening new low few =
    let none_yet = ap (λ (s : SeatView Added ℕ). length s.mine) new.seat in
    let number = ap (λ (s : SeatView Added ℕ). s.number) new.seat in
    let no_reply = ap length new.ready.none_yet in
    let room = new.ready.room in
    record {
      can = record {
        of = record { lock = ap (λ (s : SeatView Added ℕ). s.lock) new.seat; opening = ap (λ (s : SeatView Added ℕ). s.opening) new.seat };
        numbered = omega arith;
        unspent = omega arith;
      };
      room = omega arith;
    }

pub all_can_work : (l : LockView ℕ) (count turns : ℕ) (ws : List Worker) → AreHired l count turns ws → turns ≤ 100 → All (CanWork l turns) ws
all_can_work l count turns ws hired few k d low =
    let size = hired.count_is in
    let inside : k < count = omega arith in can_work l count turns k (get_or ws k d) hired.opening (hired.each k d inside) inside few

-- and when it made them it is done
pub is_done : (l : LockView ℕ) (count turns k : ℕ) (w t : Worker) → IsNew l count turns k w → HasWorked turns w t → IsDone l count turns k t
is_done l count turns k w t new worked =
    let mine : t.seat.mine ≡ worked.added = worked.mine ∙ ap (λ (s : SeatView Added ℕ). s.mine ++ worked.added) new.seat in
    record {
      of = record { lock = worked.same.lock ∙ ap (λ (s : SeatView Added ℕ). s.lock) new.seat; opening = worked.same.opening ∙ ap (λ (s : SeatView Added ℕ). s.opening) new.seat };
      number = worked.same.number ∙ ap (λ (s : SeatView Added ℕ). s.number) new.seat;
      made = worked.same.made ∙ ap (λ (s : SeatView Added ℕ). s.made) new.seat;
      many = ap length mine ∙ worked.many;
      ones = subst (All (λ (e : Added). e.amount ≡ 1)) (sym mine) worked.ones;
      replies = worked.replies ∙ (ap (λ (z : List ℕ). z ++ map reply_of worked.added) new.ready.none_yet ∙ ap (map reply_of) (sym mine));
    }

pub all_done : (l : LockView ℕ) (count turns : ℕ) (ws ts : List Worker) → AreHired l count turns ws → length ts ≡ length ws → ((k : ℕ) (d : Worker) → k < length ws → HasWorked turns (get_or ws k d) (get_or ts k d)) → AreDone l count turns ts
all_done l count turns ws ts hired same each =
    let size = hired.count_is in
    record { opening = hired.opening; count_is = same ∙ size; each = λ k d low. is_done l count turns k (get_or ws k d) (get_or ts k d) (hired.each k d low) (each k d (omega arith)) }

pub both_done : (l : LockView ℕ) (turns : ℕ) (ws : List Worker) (a b s t : Worker) → AreHired l 2 turns ws → a ≡ get_or ws 0 a → b ≡ get_or ws 1 b → HasWorked turns a s → HasWorked turns b t → AreDone l 2 turns (s ∷ t ∷ [])
both_done l turns ws a b s t hired first second one other = record {
  opening = hired.opening;
  count_is = refl;
  each = at;
}
  where
    at : (k : ℕ) (d : Worker) → k < 2 → IsDone l 2 turns k (get_or (s ∷ t ∷ []) k d)
    at zero d low = is_done l 2 turns 0 a s (subst (IsNew l 2 turns 0) (sym first) (hired.each 0 a low)) one
    at (suc zero) d low = is_done l 2 turns 1 b t (subst (IsNew l 2 turns 1) (sym second) (hired.each 1 b low)) other
    at (suc (suc k)) d low = absurd (omega arith)

-- what a slice that was lent ends with
pub written : {X : Type 0} (xs ys : List X) (n : ℕ) → length xs ≡ n → take n (xs ++ ys) ≡ xs
written xs ys n e = ap (λ (k : ℕ). take k (xs ++ ys)) (sym e) ∙ take-append_seam xs ys

-- what is left of two when both were taken out, the second first
pub taken_out : {X : Type 0} (ws us vs : List X) (a : X) → length ws ≡ 2 → us ≡ remove ws 1 → a ≡ get_or us 0 a → vs ≡ remove us 0 → (a ≡ get_or ws 0 a) × (vs ≡ [])
taken_out [] us vs a two e f g = absurd (omega arith)
taken_out (x ∷ []) us vs a two e f g = absurd (omega arith)
taken_out {X = X} (x ∷ y ∷ []) us vs a two e f g = (f ∙ ap (λ (l : List X). get_or l 0 a) e, g ∙ ap (λ (l : List X). remove l 0) e)
taken_out (x ∷ y ∷ z ∷ zs) us vs a two e f g = absurd (omega arith)
