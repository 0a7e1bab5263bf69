use Rattle.std.proofs.Common.{◌≡◌}
use Rattle.gm_tool.proofs.carry.tell_starts.Given as goal

-- what is known changes nothing that a contract sees
abbrev pub invariant-loop-at : goal.invariant-loop-at
invariant-loop-at l = l.oracle ≡ l.fn.oracle
