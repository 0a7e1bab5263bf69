use Rattle.std.proofs.Common.{◌≤◌}
use Rattle.cdcl_core.proofs.plan.lowest_free.Given as goal

abbrev pub invariant-loop-index : goal.invariant-loop-index
invariant-loop-index l = l.index ≤ l.from

abbrev pub decreases-loop-index : goal.decreases-loop-index
decreases-loop-index l = l.index
