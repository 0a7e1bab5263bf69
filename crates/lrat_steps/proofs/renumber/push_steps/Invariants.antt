use Rattle.std.proofs.Common.{◌≡◌, ◌++◌, map, take}
use Rattle.lrat_steps.specs.Cone.{trimmed_step}
use Rattle.lrat_steps.specs.Log.{steps_of}
use Rattle.lrat_steps.proofs.renumber.push_steps.Given as goal

-- the steps up to this one were added
abbrev pub invariant-loop-id : goal.invariant-loop-id
invariant-loop-id l = l.builder ≡ record l.fn.builder { steps = l.fn.builder.steps ++ map (trimmed_step (steps_of l.log) l.cone) (take l.id-index l.cone) }
