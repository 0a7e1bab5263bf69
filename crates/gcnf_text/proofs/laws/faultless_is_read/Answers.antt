use Rattle.gcnf_text.proofs.StopLemmas.{faultless_is_read}
use Rattle.gcnf_text.proofs.laws.faultless_is_read.Goals as goal

pub returns : goal.returns
returns c = faultless_is_read
