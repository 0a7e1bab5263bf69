use Rattle.evidence_rec.proofs.AcceptedLemmas.{accepted-right}
use Rattle.evidence_rec.proofs.laws.accepted_are_right.Goals as goal

-- the law is a lemma
pub returns : goal.returns
returns c = accepted-right
