use Rattle.std.proofs.Common.{take}
use Rattle.sat_base.specs.Units.{AllFalseBut}
use Rattle.trail_book.specs.Trail.{trues}
use Rattle.propagate.proofs.visit.other_open.Given as goal

-- the literals before are false, or `other`
abbrev pub invariant-loop-lit : goal.invariant-loop-lit
invariant-loop-lit l = AllFalseBut (trues l.trail.entries) (take l.lit-index l.clause) l.other
