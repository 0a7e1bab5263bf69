use Rattle.std.proofs.Common.{take}
use Rattle.sat_base.specs.Units.{AllFalse}
use Rattle.trail_book.specs.Trail.{trues}
use Rattle.trail_trials.proofs.reasons.are_false.Given as goal

abbrev pub invariant-loop-lit : goal.invariant-loop-lit
invariant-loop-lit l = AllFalse (trues l.trail.entries) (take l.lit-index l.clause)
