use Rattle.std.proofs.Common.{refl}
use Rattle.evidence_text.proofs.WordLemmas.{is_over-rest, some_byte}
use Rattle.evidence_text.proofs.words.Words.end.Goals as goal

pub returns-else-is_empty : goal.returns-else-is_empty
returns-else-is_empty c = (refl, is_over-rest c.args.self.now.rest.now (some_byte _ _ c.is_empty.ensures c.if-is_empty.false))
