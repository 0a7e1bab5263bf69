use Rattle.trail_book.specs.Trail.{IsReordered}
use Rattle.cdcl_core.proofs.activity.bump_all.Given as goal

-- only the order of decisions changed
abbrev pub invariant-loop-lit : goal.invariant-loop-lit
invariant-loop-lit l = IsReordered l.fn.trail l.trail
