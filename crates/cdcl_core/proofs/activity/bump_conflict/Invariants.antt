use Rattle.trail_book.specs.Trail.{IsReordered}
use Rattle.cdcl_core.proofs.activity.bump_conflict.Given as goal

-- only the order of decisions changed
abbrev pub invariant-loop-id : goal.invariant-loop-id
invariant-loop-id l = IsReordered l.fn.trail l.trail
