use Rattle.std.proofs.Common.{◌≡◌, take}
use Rattle.edit_session.specs.Carried.{ids_in}
use Rattle.edit_session.proofs.numbers.step_ids.Given as goal

-- the ids of the steps before this place
abbrev pub invariant-loop-at : goal.invariant-loop-at
invariant-loop-at l = l.ids.items ≡ ids_in (take l.at l.proof.steps)
