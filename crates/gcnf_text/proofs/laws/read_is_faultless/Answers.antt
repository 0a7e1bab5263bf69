use Rattle.gcnf_text.proofs.AcceptedLemmas.{faultless}
use Rattle.gcnf_text.proofs.laws.read_is_faultless.Goals as goal

pub returns : goal.returns
returns c = faultless
