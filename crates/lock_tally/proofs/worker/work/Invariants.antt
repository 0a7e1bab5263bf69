use Rattle.std.proofs.Common.{◌≡◌, vec_capacity}
use Rattle.lock_tally.specs.Works.{HasWorked}
use Rattle.lock_tally.proofs.worker.work.Given as goal

-- the worker made as many turns as were counted
abbrev pub invariant-loop-done : goal.invariant-loop-done
invariant-loop-done g l = HasWorked l.done l.initial.worker l.worker × (vec_capacity l.worker.replies ≡ vec_capacity l.initial.worker.replies)
