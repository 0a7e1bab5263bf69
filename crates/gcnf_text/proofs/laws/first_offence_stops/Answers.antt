use Rattle.gcnf_text.proofs.StopLemmas.{first_offence_stops}
use Rattle.gcnf_text.proofs.laws.first_offence_stops.Goals as goal

pub returns : goal.returns
returns c = first_offence_stops
