-- What a worker may do, and what its turns leave.
use Rattle.std.specs.Prelude.{◌≡◌, ◌+◌, ◌<◌, ◌≤◌, ℕ, List, [], ◌∷◌, ◌++◌, length, map, All, vec_capacity}
use mathlib.Core.List.{IsPrefix}
use Rattle.turn_lock.specs.Seats.{LockView, SeatView, IsSeatOf, IsSameSeat}
use Rattle.lock_tally.specs.declared.tally.Added.{Added}
use Rattle.lock_tally.specs.declared.worker.Worker.{Worker}
use Rattle.lock_tally.specs.Tallies.{reply_of}

-- the seat may make so many turns more
pub record CanAdd (l : LockView ℕ) (turns : ℕ) (s : SeatView Added ℕ) : Type 0 where
  pub of : IsSeatOf l s
  pub numbered : s.number < l.opening
  pub unspent : length s.mine + turns ≤ 100

-- one turn: the seat has one entry more, with the amount and the reply
pub record HasAdded (amount reply : ℕ) (s t : SeatView Added ℕ) : Type 0 where
  pub same : IsSameSeat s t
  pub seen : IsPrefix s.seen t.seen
  pub entry : Added
  pub mine : t.mine ≡ s.mine ++ entry ∷ []
  pub amount_is : entry.amount ≡ amount
  pub reply_is : entry.reply ≡ reply

-- the worker may make so many turns more, and has room for their replies
pub record CanWork (l : LockView ℕ) (turns : ℕ) (w : Worker) : Type 0 where
  pub can : CanAdd l turns w.seat
  pub room : length w.replies.items + turns ≤ vec_capacity w.replies

-- the worker made so many turns, each of which added 1, and kept the replies
pub record HasWorked (turns : ℕ) (w t : Worker) : Type 0 where
  pub same : IsSameSeat w.seat t.seat
  pub seen : IsPrefix w.seat.seen t.seat.seen
  pub added : List Added
  pub many : length added ≡ turns
  pub ones : All (λ (e : Added). e.amount ≡ 1) added
  pub mine : t.seat.mine ≡ w.seat.mine ++ added
  pub replies : t.replies.items ≡ w.replies.items ++ map reply_of added
