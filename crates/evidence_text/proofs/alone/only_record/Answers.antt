use Rattle.std.proofs.Common.{◌∙◌, sym}
use Rattle.std.proofs.lemmas.Bool.{cond-false}
use Rattle.evidence_text.proofs.LineLemmas.{nothing_left}
use Rattle.evidence_text.proofs.alone.only_record.Goals as goal

-- something is left
pub returns : goal.returns
returns c = sym (cond-false _ _ _ (nothing_left c.args.lines.now.rest.now ∙ sym c.is_empty.ensures ∙ c.if-is_empty.false))
