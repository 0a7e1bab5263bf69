use Rattle.std.proofs.Common.{◌≡◌, ◌-◌, ◌^◌, min, take}
use Rattle.worker_pool.specs.Outcomes.{learned_in}
use Rattle.worker_pool.proofs.pool.learned_sum.Given as goal

-- what was learnt in the logs so far
abbrev pub invariant-loop-log : goal.invariant-loop-log
invariant-loop-log l = l.sum ≡ min (learned_in (take l.log-index l.logs)) (2 ^ 64 - 1)
