use Rattle.std.specs.Prelude.{slice_index_or}
use Rattle.evidence_rec.specs.Columns.{is_set}
use Rattle.evidence_rec.proofs.ColumnLemmas.{IsColumnTo}
use Rattle.evidence_rec.proofs.columns.column_of.Given as goal

-- the bits so far are written
abbrev pub invariant-loop-at : goal.invariant-loop-at
invariant-loop-at l = IsColumnTo (λ k. is_set (slice_index_or l.words k 0) l.bit) l.at l.column
