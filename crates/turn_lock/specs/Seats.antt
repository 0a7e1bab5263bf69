-- A lock and its seats as callers see them, and what a turn does to a seat.
use Rattle.std.specs.Prelude.{◌≡◌, ℕ, zero, suc, List, [], ◌∷◌, ◌++◌, ◌<◌, ◌^◌, length, slice_index_or, All, Option, Some}
pub use Rattle.atomic_table.specs.Seated.{TableId}
use mathlib.Core.List.{IsPrefix}
use Rattle.turn_lock.specs.Calls.{calls_by}

-- what the seat numbered j knows of how many seats there are: the first knows it, and the others nothing
abbrev pub made_at : ℕ → ℕ → ℕ
made_at zero n = n
made_at (suc j) n = 0

-- which lock it is, and what its book was opened with
pub record LockView (O : Type 0) : Type 0 where
  pub id : TableId
  pub opening : O

-- what callers see of a seat
pub record SeatView (E O : Type 0) : Type 0 where
  -- which lock the seat is of, and what that lock's book was opened with
  pub lock : TableId
  pub opening : Option O
  pub number : ℕ
  -- how many seats were made, at the first one, and 0 at each other
  pub made : ℕ
  -- the history as far as the seat has seen it, and the seat's own entries
  pub seen : List E
  pub mine : List E

-- the seat is one of this lock
pub record IsSeatOf {E O : Type 0} (l : LockView O) (s : SeatView E O) : Type 0 where
  pub lock : s.lock ≡ l.id
  pub opening : s.opening ≡ Some l.opening

-- it is the same seat
pub record IsSameSeat {E O : Type 0} (s t : SeatView E O) : Type 0 where
  pub lock : t.lock ≡ s.lock
  pub opening : t.opening ≡ s.opening
  pub number : t.number ≡ s.number
  pub made : t.made ≡ s.made

-- What a turn does to its seat: it has seen all that it had seen, then entries of others, and last one entry of its own.
-- The whole of it is legal for what the book was opened with, and the reply is the one that the entry's place in it tells
pub record IsTurn {E O Op Reply : Type 0} (caller : E → ℕ) (legal : O → List E → Type 0) (tells : O → List E → Op → Reply → E → Type 0) (start : O) (s : SeatView E O) (op : Op) (reply : Reply) (t : SeatView E O) : Type 0 where
  pub between : List E
  pub entry : E
  pub seen : t.seen ≡ (s.seen ++ between) ++ entry ∷ []
  pub others : calls_by caller s.number between ≡ []
  pub by : caller entry ≡ s.number
  pub mine : t.mine ≡ s.mine ++ entry ∷ []
  pub own : calls_by caller s.number t.seen ≡ t.mine
  pub is_legal : legal start t.seen
  pub short : length t.seen < 2 ^ 63
  pub told : tells start (s.seen ++ between) op reply entry

-- the seat with that number before its first turn
abbrev pub new_seat : {E O : Type 0} → TableId → O → ℕ → ℕ → SeatView E O
new_seat lock start made number = record { lock = lock; opening = Some start; number = number; made = made; seen = []; mine = [] }

-- the seats that a lock was started with: so many, numbered by their places, and none has seen or made an entry
pub record AreNew {E O : Type 0} (l : LockView O) (count : ℕ) (seats : List (SeatView E O)) : Type 0 where
  pub count_is : length seats ≡ count
  pub each : (k : ℕ) (d : SeatView E O) → k < length seats → slice_index_or seats k d ≡ new_seat l.id l.opening (made_at k count) k

-- all seats of a lock, in the order in which it gave them
pub record AreAll {E O : Type 0} (l : LockView O) (seats : List (SeatView E O)) : Type 0 where
  pub some : 0 < length seats
  pub of : (k : ℕ) (d : SeatView E O) → k < length seats → IsSeatOf l (slice_index_or seats k d)
  pub number : (k : ℕ) (d : SeatView E O) → k < length seats → (slice_index_or seats k d).number ≡ k
  pub made : (k : ℕ) (d : SeatView E O) → k < length seats → (slice_index_or seats k d).made ≡ made_at k (length seats)

-- The history is legal for what the book was opened with, and has the calls of these seats and nothing else: what each has seen is a beginning of it, its own entries are those of it that name it, and each entry names one of them
pub record HasAll {E O : Type 0} (caller : E → ℕ) (legal : O → List E → Type 0) (start : O) (seats : List (SeatView E O)) (log : List E) : Type 0 where
  pub is_legal : legal start log
  pub seen : All (λ (s : SeatView E O). IsPrefix s.seen log) seats
  pub mine : All (λ (s : SeatView E O). calls_by caller s.number log ≡ s.mine) seats
  pub named : All (λ e. caller e < length seats) log
