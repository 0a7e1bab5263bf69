use Rattle.std.proofs.Common.{take}
use Rattle.std.specs.Prelude.{All}
use Rattle.evidence_text.specs.Readable.{HasRecordIds}
use Rattle.gm_io.proofs.record_ids.records_fit.Given as goal

-- those so far are small enough
abbrev pub invariant-loop-made : goal.invariant-loop-made
invariant-loop-made l = All HasRecordIds (take l.made-index l.records)
