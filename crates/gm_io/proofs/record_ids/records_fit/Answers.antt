use Rattle.std.proofs.Common.{subst, arith}
use Rattle.std.specs.Prelude.{All}
use Rattle.std.proofs.lemmas.List.{take_all}
use Rattle.std.proofs.lemmas.List.Elements.{All-more, recursion_from_All}
use Rattle.evidence_text.specs.Readable.{HasRecordIds}
use Rattle.gm_io.proofs.record_ids.records_fit.Goals as goal

pub loop-made-preserved : goal.loop-made-preserved
loop-made-preserved c =
    All-more HasRecordIds c.args.records.now c.loop-made.made-index c.made-item.result c.loop-made-test.true c.loop-made.invariant
    (subst HasRecordIds c.made-item.is c.record_fits.ensures)

pub returns : goal.returns
returns c =
    recursion_from_All HasRecordIds c.args.records.now
    (subst (All HasRecordIds) (take_all c.loop-made.made-index c.args.records.now (omega arith)) c.loop-made.invariant)
