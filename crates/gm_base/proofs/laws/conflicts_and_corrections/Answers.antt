use Rattle.gm_base.proofs.HittingLemmas.{holds-or_misses, IsConflict-hitting, IsCorrection-hitting}
use Rattle.gm_base.proofs.laws.conflicts_and_corrections.Goals as goal

pub returns-clause-holds_or_misses : goal.returns-clause-holds_or_misses
returns-clause-holds_or_misses c = holds-or_misses

pub returns-clause-hit_each_other : goal.returns-clause-hit_each_other
returns-clause-hit_each_other c = λ p set of. (IsConflict-hitting p set of, IsCorrection-hitting p set of)
