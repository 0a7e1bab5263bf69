use Rattle.std.proofs.Common.{◌-◌, length}
use Rattle.cdcl_core.proofs.forgetting.activities_of.Given as goal

abbrev pub invariant-loop-id : goal.invariant-loop-id
invariant-loop-id l = Unit {0}

abbrev pub decreases-loop-id : goal.decreases-loop-id
decreases-loop-id l = length l.search.store.clauses - l.id
