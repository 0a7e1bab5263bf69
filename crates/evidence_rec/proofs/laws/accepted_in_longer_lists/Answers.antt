use Rattle.evidence_rec.proofs.AcceptedLemmas.{accepted-push, accepted-alone}
use Rattle.evidence_rec.proofs.laws.accepted_in_longer_lists.Goals as goal

-- each law is a lemma
pub returns : goal.returns
returns c = record { behind = accepted-push; alone = accepted-alone }
