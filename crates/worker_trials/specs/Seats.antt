-- Seats of a board of two, from which calls are made.
use Rattle.std.specs.Prelude.{◌≡◌, Bool, true, false}
use Rattle.turn_lock.specs.Seats.{made_at}
use Rattle.map_core.specs.declared.entry.Entry.{Entry}
use Rattle.map_core.specs.declared.entry.Opening.{Opening}
use Rattle.map_core.specs.Own.{worker_of}
use Rattle.board.specs.Boards.{LockView, SeatView, IsSeatOf, MayCall}

-- a seat of the board, whose worker may call, or else has ended
pub record IsSeated (b : LockView Opening) (may : Bool) (s : SeatView Entry Opening) : Type 0 where
  pub of : IsSeatOf b s
  pub made : s.made ≡ made_at s.number 2
  pub may_call : may ≡ true → MayCall b s 0
  pub ended : may ≡ false → (worker_of s.mine).ended ≡ true
