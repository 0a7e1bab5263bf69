use Rattle.std.proofs.Common.{◌≡◌, ◌++◌, map, take}
use Rattle.edit_session.specs.Carried.{carried_step}
use Rattle.edit_session.proofs.derivations.push_steps.Given as goal

-- the steps before this place were added
abbrev pub invariant-loop-at : goal.invariant-loop-at
invariant-loop-at l = l.builder ≡ record l.fn.builder { steps = l.fn.builder.steps ++ map (carried_step l.old l.new l.ids) (take l.at l.proof.steps) }
