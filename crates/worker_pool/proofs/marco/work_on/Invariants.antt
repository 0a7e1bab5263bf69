use Rattle.std.proofs.Common.{◌≡◌, ◌-◌, ◌≤◌, ◌^◌, length, is_some, option_copied}
use Rattle.map_core.specs.Own.{worker_of}
use Rattle.board.specs.Boards.{IsSameSeat}
use Rattle.worker_pool.specs.Course.{At}
use Rattle.worker_pool.specs.Workers.{IsAt, IsKeeping}
use Rattle.worker_pool.proofs.marco.work_on.Given as goal

-- the worker is at the job, its purse is what it was granted, and its pen has not moved
abbrev pub invariant-loop-record : goal.invariant-loop-record
invariant-loop-record g l =
    record {
      at : IsAt (is_some (option_copied l.journal)) l.board l.problem (At l.seed) (g.O.Oracle.state l.worker.oracle) l.worker.seat;
      granted : (worker_of l.worker.seat.mine).purse ≡ l.granted;
      full : l.purse.left ≡ l.granted;
      same : IsSameSeat l.fn.worker.seat l.worker.seat;
      longer : length l.fn.worker.seat.seen ≤ length l.worker.seat.seen;
      keeps : IsKeeping (option_copied l.journal) l.problem l.worker;
      pen : l.worker.pen ≡ l.fn.worker.pen;
    }

-- each round adds an entry to what the seat has seen
abbrev pub decreases-loop-record : goal.decreases-loop-record
decreases-loop-record g l = 2 ^ 63 - length l.worker.seat.seen
