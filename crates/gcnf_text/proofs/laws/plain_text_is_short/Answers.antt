use Rattle.gcnf_text.proofs.PlainLengthLemmas.{plain_is_short}
use Rattle.gcnf_text.proofs.laws.plain_text_is_short.Goals as goal

pub returns : goal.returns
returns c = plain_is_short
