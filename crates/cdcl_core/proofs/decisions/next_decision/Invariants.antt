use Rattle.std.proofs.Common.{◌-◌, length, take}
use Rattle.sat_base.specs.Units.{AllTrue}
use Rattle.trail_book.specs.Trail.{trues}
use Rattle.cdcl_core.proofs.decisions.next_decision.Given as goal

abbrev pub invariant-loop-reached : goal.invariant-loop-reached
invariant-loop-reached l = AllTrue (trues l.trail.entries) (take l.reached l.assumed)

abbrev pub decreases-loop-reached : goal.decreases-loop-reached
decreases-loop-reached l = length l.assumed - l.reached
