use Rattle.std.proofs.Common.{◌≡◌}
use Rattle.lawful_trials.proofs.oracles.tell_all.Given as goal

-- the oracle is of this problem
abbrev pub invariant-loop-groups : goal.invariant-loop-groups
invariant-loop-groups g l = l.known.problem ≡ l.problem
