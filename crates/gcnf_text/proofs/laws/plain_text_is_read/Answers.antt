use Rattle.gcnf_text.proofs.PlainLengthLemmas.{plain_is_read}
use Rattle.gcnf_text.proofs.laws.plain_text_is_read.Goals as goal

pub returns : goal.returns
returns c = plain_is_read
