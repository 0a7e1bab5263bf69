use Rattle.std.proofs.Common.{◌≡◌, map, take}
use Rattle.edit_session.specs.Carried.{carried_witness}
use Rattle.edit_session.proofs.witnesses.carried_witnesses.Given as goal

-- those before this place
abbrev pub invariant-loop-at : goal.invariant-loop-at
invariant-loop-at l = l.wide.items ≡ map (carried_witness l.new) (take l.at l.witnesses)
