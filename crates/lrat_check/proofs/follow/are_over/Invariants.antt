use Rattle.std.proofs.Common.{take}
use Rattle.std.specs.Prelude.{All}
use Rattle.sat_base.specs.Literals.{IsLiteral}
use Rattle.lrat_check.proofs.follow.are_over.Given as goal

-- the literals so far are over the variables
abbrev pub invariant-loop-lit : goal.invariant-loop-lit
invariant-loop-lit l = All (IsLiteral l.vars) (take l.lit-index l.lits)
