use Rattle.std.proofs.Common.{◌-◌, ◌^◌, length, is_some, option_copied}
use Rattle.board.specs.Boards.{IsSameSeat}
use Rattle.worker_pool.specs.Course.{Free}
use Rattle.worker_pool.specs.Pens.{IsSamePen}
use Rattle.worker_pool.specs.Workers.{IsAt, IsKeeping}
use Rattle.worker_pool.proofs.marco.work_beside.Given as goal

-- the worker has no job, and may take one; the journal has what it found so far
abbrev pub invariant-loop-turn : goal.invariant-loop-turn
invariant-loop-turn g l =
    record {
      at : IsAt (is_some (option_copied l.journal)) l.board l.problem Free (g.O.Oracle.state l.worker.oracle) l.worker.seat;
      same : IsSameSeat l.fn.worker.seat l.worker.seat;
      keeps : IsKeeping (option_copied l.journal) l.problem l.worker;
      pen : IsSamePen l.fn.worker.pen l.worker.pen;
    }

-- each round adds an entry to what the seat has seen
abbrev pub decreases-loop-turn : goal.decreases-loop-turn
decreases-loop-turn g l = 2 ^ 63 - length l.worker.seat.seen
