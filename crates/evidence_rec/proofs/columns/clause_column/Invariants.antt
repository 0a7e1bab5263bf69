use Rattle.std.proofs.Common.{take}
use Rattle.sat_base.specs.Literals.{clause_true}
use Rattle.evidence_rec.specs.Columns.{Tells}
use Rattle.evidence_rec.proofs.columns.clause_column.Given as goal

-- the column of the literals so far
abbrev pub invariant-loop-lit : goal.invariant-loop-lit
invariant-loop-lit l = Tells l.columns (λ w. clause_true w (take l.lit-index l.lits)) l.column
