use Rattle.std.proofs.Common.{◌≤◌, ◌-◌, ℤ, length, take}
use Rattle.sat_base.specs.Members.{In}
use Rattle.sat_base.specs.Units.{AllTrue}
use Rattle.trail_book.specs.Trail.{trues, keep}
use Rattle.learn_step.specs.Reasons.{IsDecision}
use Rattle.cdcl_core.proofs.resuming.shared.Given as goal

-- the levels so far began with literals that are assumed
abbrev pub invariant-loop-reached : goal.invariant-loop-reached
invariant-loop-reached l = record {
  most : l.levels ≤ l.most;
  decided : (lit : ℤ) → IsDecision (keep l.levels l.trail.entries) lit → In lit l.assumed;
  reached : AllTrue (trues (keep l.levels l.trail.entries)) (take l.reached l.assumed);
}

abbrev pub decreases-loop-reached : goal.decreases-loop-reached
decreases-loop-reached l = length l.assumed - l.reached
