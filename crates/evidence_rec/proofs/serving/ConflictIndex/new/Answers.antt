use Rattle.evidence_rec.proofs.NumberedLemmas.{placed-empty}
use Rattle.evidence_rec.proofs.serving.ConflictIndex.new.Goals as goal

pub returns-clause-none : goal.returns-clause-none
returns-clause-none c = placed-empty _ c.loop.lists.items c.loop.invariant.empty
