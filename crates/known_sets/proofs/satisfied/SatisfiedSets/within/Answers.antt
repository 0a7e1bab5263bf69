use Rattle.std.proofs.Common.{subst, sym}
use Rattle.std.specs.Prelude.{All}
use Rattle.known_sets.specs.Entries.{IsSatisfied}
use Rattle.known_sets.proofs.satisfied.SatisfiedSets.within.Goals as goal

-- looking up leaves what is remembered
pub returns-clause-witness : goal.returns-clause-witness
returns-clause-witness c = λ p all within.
    c.in_ok-assign.ensures p (subst (All (IsSatisfied p)) (sym c.number_of.ensures) all) within
