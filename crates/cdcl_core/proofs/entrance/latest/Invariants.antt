use Rattle.std.proofs.Common.{take}
use Rattle.sat_base.specs.Units.{AllFalseBut}
use Rattle.trail_book.specs.Trail.{trues}
use Rattle.learn_step.specs.Reasons.{before_last}
use Rattle.cdcl_core.proofs.entrance.latest.Given as goal

-- the literals before were false before the last decision, but for the first one
abbrev pub invariant-loop-lit : goal.invariant-loop-lit
invariant-loop-lit l = AllFalseBut (trues (before_last l.trail.entries)) (take l.lit-index l.clause) l.first
