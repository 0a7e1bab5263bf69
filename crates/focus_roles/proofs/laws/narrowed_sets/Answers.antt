use Rattle.focus_roles.proofs.NarrowLemmas.{Sat-cut, Sat-narrowed, conflicts-narrowed, least_cut-from_correction, correction-from_least_cut}
use Rattle.focus_roles.proofs.laws.narrowed_sets.Goals as goal

pub returns-clause-sat : goal.returns-clause-sat
returns-clause-sat c = λ p focus set. (Sat-cut p focus set, Sat-narrowed p focus set)

pub returns-clause-conflicts : goal.returns-clause-conflicts
returns-clause-conflicts c = conflicts-narrowed

pub returns-clause-corrections : goal.returns-clause-corrections
returns-clause-corrections c = λ p focus set. (least_cut-from_correction p focus set, correction-from_least_cut p focus set)
