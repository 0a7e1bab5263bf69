use Rattle.evidence_rec.proofs.Explored.{explored-holds_all, closing-explores}
use Rattle.evidence_rec.proofs.HeldLemmas.{held-exactly_all}
use Rattle.evidence_rec.proofs.laws.accepted_records_hold_all.Goals as goal

-- each law is a lemma
pub returns : goal.returns
returns c = record { explored = explored-holds_all; closing = closing-explores; exactly = held-exactly_all }
