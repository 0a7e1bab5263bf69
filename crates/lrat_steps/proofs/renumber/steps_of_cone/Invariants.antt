use Rattle.std.proofs.Common.{◌≡◌, map, take}
use Rattle.lrat_steps.specs.Cone.{kept_at}
use Rattle.lrat_steps.specs.Log.{steps_of}
use Rattle.lrat_steps.proofs.renumber.steps_of_cone.Given as goal

-- the steps up to this one were taken
abbrev pub invariant-loop-id : goal.invariant-loop-id
invariant-loop-id l = l.steps.items ≡ map (kept_at (steps_of l.log)) (take l.id-index l.cone)
