use Rattle.std.proofs.Common.{reverse}
use Rattle.lrat_steps.proofs.ConeLemmas.{IsConeSoFar, limit_of}
use Rattle.lrat_steps.specs.Log.{steps_of}
use Rattle.lrat_steps.proofs.cone.cone_of.Given as goal

-- all that was handled is above what waits, and each need of it is met or waits
abbrev pub invariant-loop-id : goal.invariant-loop-id
invariant-loop-id l = IsConeSoFar (steps_of l.log) l.goal l.work (reverse l.ids.items)

-- what waits is below what was taken out last
abbrev pub decreases-loop-id : goal.decreases-loop-id
decreases-loop-id l = limit_of l.work
