-- A crew: all seats of one lock, each with its worker.
use Rattle.std.specs.Prelude.{◌≡◌, ℕ, ◌*◌, ◌<◌, ◌≤◌, List, [], length, map, slice_index_or, All, Vec, vec_capacity}
use Rattle.turn_lock.specs.Calls.{calls_by}
use Rattle.turn_lock.specs.Seats.{LockView, SeatView, IsSeatOf, made_at, new_seat}
use Rattle.lock_tally.specs.declared.tally.Added.{Added}
use Rattle.lock_tally.specs.declared.worker.Worker.{Worker}
use Rattle.lock_tally.specs.Tallies.{who_of, reply_of, added_sum, IsLegal}

-- the worker's seat
abbrev pub seat_of : Worker → SeatView Added ℕ
seat_of w = w.seat

-- the numbers of a list of replies
abbrev pub list_of : {A : Type 0} → Vec ℕ A → List ℕ
list_of v = v.items

-- what the worker was told so far
abbrev pub replies_of : Worker → List ℕ
replies_of w = w.replies.items

-- no reply yet, and room for so many
pub record IsReady (turns : ℕ) (w : Worker) : Type 0 where
  pub none_yet : w.replies.items ≡ []
  pub room : turns ≤ vec_capacity w.replies

-- the worker numbered k before its first turn
pub record IsNew (l : LockView ℕ) (count turns k : ℕ) (w : Worker) : Type 0 where
  pub seat : w.seat ≡ new_seat l.id l.opening (made_at k count) k
  pub ready : IsReady turns w

-- so many workers, one for each seat of the lock
pub record AreHired (l : LockView ℕ) (count turns : ℕ) (workers : List Worker) : Type 0 where
  pub opening : l.opening ≡ count
  pub count_is : length workers ≡ count
  pub each : (k : ℕ) (d : Worker) → k < count → IsNew l count turns k (slice_index_or workers k d)

-- the worker numbered k after so many turns, each of which added 1
pub record IsDone (l : LockView ℕ) (count turns k : ℕ) (w : Worker) : Type 0 where
  pub of : IsSeatOf l w.seat
  pub number : w.seat.number ≡ k
  pub made : w.seat.made ≡ made_at k count
  pub many : length w.seat.mine ≡ turns
  pub ones : All (λ (e : Added). e.amount ≡ 1) w.seat.mine
  pub replies : w.replies.items ≡ map reply_of w.seat.mine

-- so many workers, one for each seat of the lock, and all are done
pub record AreDone (l : LockView ℕ) (count turns : ℕ) (workers : List Worker) : Type 0 where
  pub opening : l.opening ≡ count
  pub count_is : length workers ≡ count
  pub each : (k : ℕ) (d : Worker) → k < count → IsDone l count turns k (slice_index_or workers k d)

-- The history has exactly so many entries of each seat and no others, and each of them added 1
pub record HasTurns (count turns : ℕ) (entries : List Added) : Type 0 where
  pub is_legal : IsLegal count entries
  pub each : (k : ℕ) → k < count → length (calls_by who_of k entries) ≡ turns
  pub ones : All (λ (e : Added). e.amount ≡ 1) entries
  pub total : length entries ≡ count * turns
  pub sum : added_sum entries ≡ count * turns

-- Whoever has the number k was told the replies of its own entries, in their order
abbrev pub AreReplies : ℕ → List Added → List (List ℕ) → Type 0
AreReplies count entries replies =
    (length replies ≡ count) × ((k : ℕ) (d : List ℕ) → k < count → slice_index_or replies k d ≡ map reply_of (calls_by who_of k entries))
