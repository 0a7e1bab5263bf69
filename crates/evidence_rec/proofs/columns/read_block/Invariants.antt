use Rattle.std.proofs.Common.{◌/◌}
use Rattle.evidence_rec.proofs.ColumnLemmas.{AreWordsTo}
use Rattle.evidence_rec.proofs.columns.read_block.Given as goal

-- the words of the assignments so far were read
abbrev pub invariant-loop-assign : goal.invariant-loop-assign
invariant-loop-assign l = AreWordsTo l.assigns (l.at / 64) l.assign-index l.words.items
