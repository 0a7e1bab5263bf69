-- A worker before its first call, at work, and after its last.
use Rattle.std.specs.Prelude.{◌≡◌, ℕ, ◌+◌, ◌<◌, ◌≤◌, Bool, true, false, List, [], length, All, slice_index_or, Option, None, is_some}
use Rattle.gm_base.specs.Problem.{Problem}
use Rattle.lrat_steps.specs.Log.{LogStep, learned_count}
use Rattle.turn_lock.specs.Seats.{AreAll}
use Rattle.evidence_rec.specs.Asking.{OracleState, IsHonestOver}
use Rattle.map_core.specs.declared.entry.Entry.{Entry}
use Rattle.map_core.specs.declared.entry.Opening.{Opening}
use Rattle.map_core.specs.Own.{worker_of, used_in}
use Rattle.board.specs.Boards.{LockView, SeatView, IsSeatOf, IsSameSeat}
use Rattle.worker_pool.specs.declared.worker.Worker.{Worker}
use Rattle.worker_pool.specs.Course.{Place, Free, Over, IsCourse, place_from, EndsUndecided}
use Rattle.worker_pool.specs.Pens.{JournalView, PenView, written_by, failure_in, HasWritten, IsWriting, IsPenOf, IsSamePen}

-- an oracle of the problem that has learnt nothing
pub record IsFresh (p : Problem) (o : OracleState) : Type 0 where
  pub asks_of : o.problem ≡ p
  pub nothing : learned_count o.log ≡ 0

-- a fresh oracle, and a seat of the board that has made no entry
pub record IsNew (b : LockView Opening) (p : Problem) (o : OracleState) (s : SeatView Entry Opening) : Type 0 where
  pub fresh : IsFresh p o
  pub of : IsSeatOf b s
  pub numbered : s.number < b.opening.workers
  pub none_yet : s.mine ≡ []

-- a pen of the journal, where there is one, with which nothing was appended
pub record HasNewPen {O D : Type 0} (j : Option JournalView) (p : Problem) (w : Worker O D) : Type 0 where
  pub pen : IsPenOf p j w.pen
  pub none_yet : written_by w.pen ≡ []
  pub whole : w.broken ≡ None

-- the oracle has learnt as much as the worker's entries say that was used, and the entries are a course of jobs
pub record IsWorker (keeps : Bool) (b : LockView Opening) (p : Problem) (o : OracleState) (s : SeatView Entry Opening) : Type 0 where
  pub asks_of : o.problem ≡ p
  pub of : IsSeatOf b s
  pub numbered : s.number < b.opening.workers
  pub paid : learned_count o.log ≡ used_in s.mine
  pub course : IsCourse keeps p b.opening.tops Free s.mine

-- a worker that stands there, and may call
pub record IsAt (keeps : Bool) (b : LockView Opening) (p : Problem) (here : Place) (o : OracleState) (s : SeatView Entry Opening) : Type 0 where
  pub worker : IsWorker keeps b p o s
  pub stands : place_from Free s.mine ≡ here
  pub alive : (worker_of s.mine).ended ≡ false

-- the same, where the oracle has learnt so much more than the entries say, which is within the purse
pub record IsOwing (keeps : Bool) (b : LockView Opening) (p : Problem) (here : Place) (used : ℕ) (o : OracleState) (s : SeatView Entry Opening) : Type 0 where
  pub asks_of : o.problem ≡ p
  pub of : IsSeatOf b s
  pub numbered : s.number < b.opening.workers
  pub owes : learned_count o.log ≡ used_in s.mine + used
  pub within : used ≤ (worker_of s.mine).purse
  pub course : IsCourse keeps p b.opening.tops Free s.mine
  pub stands : place_from Free s.mine ≡ here
  pub alive : (worker_of s.mine).ended ≡ false

-- a worker whose last entry has ended it
pub record IsOver (keeps : Bool) (b : LockView Opening) (p : Problem) (o : OracleState) (s : SeatView Entry Opening) : Type 0 where
  pub worker : IsWorker keeps b p o s
  pub stands : place_from Free s.mine ≡ Over
  pub ended : (worker_of s.mine).ended ≡ true
  pub undecided : EndsUndecided p o.log s.mine

-- what a worker that goes on has written so far, and no append of it failed
pub record IsKeeping {O D : Type 0} (j : Option JournalView) (p : Problem) (w : Worker O D) : Type 0 where
  pub pen : IsPenOf p j w.pen
  pub written : IsWriting (is_some j) w.seat.mine (written_by w.pen)
  pub whole : w.broken ≡ None

-- what a worker that is over has written, with its pen, and the count with which an append of it failed
pub record HasKept {O D : Type 0} (j : Option JournalView) (w t : Worker O D) : Type 0 where
  pub pen : IsSamePen w.pen t.pen
  pub written : HasWritten (is_some j) t.seat.mine (written_by t.pen)
  pub broken : t.broken ≡ failure_in (written_by t.pen)

abbrev pub oracle_of : {O D : Type 0} → Worker O D → O
oracle_of w = w.oracle

abbrev pub seat_of : {O D : Type 0} → Worker O D → SeatView Entry Opening
seat_of w = w.seat

abbrev pub pen_of : {O D : Type 0} → Worker O D → Option PenView
pen_of w = w.pen

abbrev pub broken_of : {O D : Type 0} → Worker O D → Option ℕ
broken_of w = w.broken

abbrev pub log_of : {O D : Type 0} → (O → OracleState) → Worker O D → List LogStep
log_of state w = (state w.oracle).log

-- the same worker, after its last entry
pub record HasWorked {O D : Type 0} (j : Option JournalView) (b : LockView Opening) (p : Problem) (state : O → OracleState) (w t : Worker O D) : Type 0 where
  pub same : IsSameSeat w.seat t.seat
  pub over : IsOver (is_some j) b p (state t.oracle) t.seat
  pub kept : HasKept j w t

-- the log and the own entries of a worker that is over
pub record IsDone (keeps : Bool) (p : Problem) (tops : Bool) (log : List LogStep) (mine : List Entry) : Type 0 where
  pub honest : IsHonestOver p log
  pub paid : learned_count log ≡ used_in mine
  pub course : IsCourse keeps p tops Free mine
  pub over : place_from Free mine ≡ Over
  pub undecided : EndsUndecided p log mine

-- all seats of the board, each with the log of its worker, which is over
pub record AreOver (keeps : Bool) (b : LockView Opening) (seats : List (SeatView Entry Opening)) (logs : List (List LogStep)) : Type 0 where
  pub all : AreAll b seats
  pub count : length seats ≡ b.opening.workers
  pub logs_count : length logs ≡ length seats
  pub ended : All (λ (s : SeatView Entry Opening). (worker_of s.mine).ended ≡ true) seats
  pub done : (w : ℕ) (s : SeatView Entry Opening) (d : List LogStep) → w < length seats → IsDone keeps b.opening.problem b.opening.tops (slice_index_or logs w d) (slice_index_or seats w s).mine
