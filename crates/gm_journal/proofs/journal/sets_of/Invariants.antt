use Rattle.std.proofs.Common.{take}
use Rattle.evidence_rec.specs.Index.{IsIndex}
use Rattle.gm_journal.proofs.journal.sets_of.Given as goal

-- the sets of the records so far
abbrev pub invariant-loop-r : goal.invariant-loop-r
invariant-loop-r l = IsIndex l.held (take l.r-index l.records)
