use Rattle.std.proofs.Common.{◌∙◌, sym}
use Rattle.evidence_text.proofs.LineLemmas.{nothing_left}
use Rattle.evidence_text.proofs.record.read_nothing.Goals as goal

pub returns-then-is_empty : goal.returns-then-is_empty
returns-then-is_empty c = nothing_left c.args.lines.now.rest.now ∙ sym c.is_empty.ensures ∙ c.if-is_empty.true

pub returns-else-is_empty : goal.returns-else-is_empty
returns-else-is_empty c = (nothing_left c.args.lines.now.rest.now ∙ sym c.is_empty.ensures ∙ c.if-is_empty.false, c.refusal.ensures)
