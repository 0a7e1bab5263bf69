use Rattle.std.proofs.Common.{rules}
use Rattle.propagate.proofs.visit.satisfied.Goals as goal

-- a watch is parked only where that is asked for, and no other answer is looked for
pub returns-then-level_of-top : goal.returns-then-level_of-top
returns-then-level_of-top c = search rules
