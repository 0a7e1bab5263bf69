use Rattle.std.proofs.Common.{◌≡◌, ◌≤◌, length, All, vec_capacity}
use Rattle.worker_pool.specs.Workers.{IsFresh}
use Rattle.worker_trials.proofs.workers.shy_of.Given as goal

-- the oracles so far are fresh, and there is room for all
abbrev pub invariant-loop-at : goal.invariant-loop-at
invariant-loop-at l = (length l.oracles.items ≡ l.at-index) × All (IsFresh l.problem) l.oracles.items × (length l.questions ≤ vec_capacity l.oracles)
