use Rattle.std.proofs.Common.{take}
use Rattle.lrat_steps.specs.Cone.{hints_at, PutsDerived}
use Rattle.lrat_steps.specs.Log.{steps_of}
use Rattle.lrat_steps.proofs.cone.put_hints.Given as goal

-- the derived ones of the hints up to this one were put in
abbrev pub invariant-loop-at : goal.invariant-loop-at
invariant-loop-at l = PutsDerived (steps_of l.log) l.fn.work (take l.at (hints_at (steps_of l.log) l.id)) l.work
