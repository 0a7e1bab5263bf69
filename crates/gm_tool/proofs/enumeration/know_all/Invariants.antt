use Rattle.std.proofs.Common.{◌≡◌}
use Rattle.gm_tool.proofs.enumeration.know_all.Given as goal

-- what is known changes nothing that a contract sees
abbrev pub invariant-loop-found : goal.invariant-loop-found
invariant-loop-found l = l.oracle ≡ l.fn.oracle
