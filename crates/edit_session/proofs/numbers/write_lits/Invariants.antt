use Rattle.std.proofs.Common.{◌≡◌, map, take}
use Rattle.edit_session.specs.Carried.{carried_lit}
use Rattle.edit_session.proofs.numbers.write_lits.Given as goal

-- the literals before this one
abbrev pub invariant-loop-lit : goal.invariant-loop-lit
invariant-loop-lit l = l.out.items ≡ map (carried_lit l.old l.new) (take l.lit-index l.lits)
