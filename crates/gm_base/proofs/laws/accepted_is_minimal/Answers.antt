use Rattle.gm_base.proofs.EvidenceLemmas.{IsConflict-from_evidence}
use Rattle.gm_base.proofs.laws.accepted_is_minimal.Goals as goal

pub returns : goal.returns
returns c = IsConflict-from_evidence
