use Rattle.evidence_text.proofs.AcceptedLemmas.{accepted-readable, closing-readable, accepted-read, shortened-read}
use Rattle.evidence_text.proofs.laws.accepted_is_read.Goals as goal

pub returns-clause-record : goal.returns-clause-record
returns-clause-record c = accepted-readable

pub returns-clause-closing : goal.returns-clause-closing
returns-clause-closing c = closing-readable

pub returns-clause-texts : goal.returns-clause-texts
returns-clause-texts c = accepted-read

pub returns-clause-shortened : goal.returns-clause-shortened
returns-clause-shortened c = shortened-read
