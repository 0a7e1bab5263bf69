use Rattle.evidence_text.proofs.StandsLemmas.{piece-stands, head-stands}
use Rattle.evidence_text.proofs.laws.read_is_written.Goals as goal

pub returns-clause-pieces : goal.returns-clause-pieces
returns-clause-pieces c = piece-stands

pub returns-clause-heads : goal.returns-clause-heads
returns-clause-heads c = head-stands
