use Rattle.std.proofs.Common.{take}
use Rattle.sat_base.specs.Units.{AllFalseBut}
use Rattle.trail_book.specs.Trail.{trues}
use Rattle.propagate.proofs.visit.open_between.Given as goal

-- where the literals before `from` are false, or `other`, those before `place` are
abbrev pub invariant-loop-place : goal.invariant-loop-place
invariant-loop-place l = AllFalseBut (trues l.trail.entries) (take l.from l.clause) l.other → AllFalseBut (trues l.trail.entries) (take l.place l.clause) l.other
