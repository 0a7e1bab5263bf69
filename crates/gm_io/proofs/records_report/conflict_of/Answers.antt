use Rattle.std.proofs.Common.{sym, ◌∙◌}
use Rattle.gm_io.proofs.NumberedLemmas.{In-at}
use Rattle.gm_io.proofs.records_report.conflict_of.Goals as goal

-- it stands at its place among them
pub returns-then-is_conflict_of : goal.returns-then-is_conflict_of
returns-then-is_conflict_of c = (
  In-at c.args.records.now c.loop-made.made-index c.made-item.result c.loop-made-test.true (sym c.made-item.is),
  sym c.is_conflict_of.ensures ∙ c.if-is_conflict_of.true,
)
