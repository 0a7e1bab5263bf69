use Rattle.std.proofs.Common.{◌≡◌, false, take}
use Rattle.sat_base.specs.Literals.{clause_true}
use Rattle.sat_base.proofs.assign.Assign.makes_any_true.Given as goal

-- none of the literals looked at is true
abbrev pub invariant-loop-lit : goal.invariant-loop-lit
invariant-loop-lit l = clause_true l.self (take l.lit-index l.lits) ≡ false
