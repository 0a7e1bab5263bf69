use Rattle.std.proofs.Common.{◌≡◌, false, take}
use Rattle.lrat_export.specs.Export.{is_settled}
use Rattle.lrat_export.proofs.numbering.is_settled.Given as goal

-- none of the literals looked at is true
abbrev pub invariant-loop-lit : goal.invariant-loop-lit
invariant-loop-lit l = is_settled l.vars l.set (take l.lit-index l.lits) ≡ false
