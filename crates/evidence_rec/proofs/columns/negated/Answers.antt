use Rattle.std.proofs.Common.{w64}
use Rattle.evidence_rec.proofs.ColumnLemmas.{is_set-not}
use Rattle.evidence_rec.proofs.columns.negated.Goals as goal

pub returns : goal.returns
returns c = λ k within. is_set-not w64 c.args.column k c.ranges.column.fits within
