use Rattle.std.proofs.Common.{rules, refl}
use Rattle.worker_pool.proofs.Given.{given}
use Rattle.worker_pool.proofs.Steps.{new_at, take_job, take_ends, same-seat}
use Rattle.worker_pool.proofs.Written.{same_pen}
use Rattle.worker_pool.proofs.Kept.{keeps_on, has_kept, new_keeps}
use Rattle.worker_pool.proofs.marco.work_beside.Goals as goal

-- before its first job it has found nothing
pub loop-turn-init : goal.loop-turn-init
loop-turn-init g c =
    let w = c.args.worker.now in
    record {
      at = new_at c.requires.new;
      same = record { lock = refl; opening = refl; number = refl; made = refl };
      keeps = new_keeps w c.requires.pen c.requires.new.none_yet;
      pen = same_pen w.pen;
    }

-- the seed is one that the records of that moment leave unexplored
pub work_on-requires-clause-given : goal.work_on-requires-clause-given
work_on-requires-clause-given g c =
    given c.args.board.now.opening c.args.problem.now c.loop-turn.worker.seat c.take.new.seat 0 c.in-Job.turn c.in-Job.grant c.in-Job.seed c.requires.opening c.requires.board c.in-Job.ensures.call

pub work_on-requires-clause-at : goal.work_on-requires-clause-at
work_on-requires-clause-at g c = take_job c.in-Job.turn c.in-Job.grant c.in-Job.seed c.loop-turn.invariant.at c.in-Job.ensures.call c.in-Job.ensures.worker

-- the purse is what the job was handed out with
pub work_on-requires-clause-granted : goal.work_on-requires-clause-granted
work_on-requires-clause-granted g c = search rules

pub work_on-requires-clause-keeps : goal.work_on-requires-clause-keeps
work_on-requires-clause-keeps g c = keeps_on c.loop-turn.worker _ c.loop-turn.invariant.keeps refl refl c.in-Job.ensures.call refl refl

-- each other answer ends the worker
pub returns : goal.returns
returns g c =
    let i = c.loop-turn.invariant in
    let call = c.take.ensures.call in
    record {
      same = same-seat i.same call;
      over = take_ends c.take.result i.at call c.take.ensures.worker c.in_default.not-Job;
      kept = has_kept c.args.worker.now _ (keeps_on c.loop-turn.worker _ i.keeps refl refl call refl refl) i.pen;
    }
