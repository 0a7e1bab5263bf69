use Rattle.std.proofs.Common.{subst, sym}
use Rattle.std.specs.Prelude.{All}
use Rattle.known_sets.specs.Entries.{IsSatisfied}
use Rattle.known_sets.proofs.satisfied.SatisfiedSets.within_less.Goals as goal

-- looking up leaves what is remembered
pub returns-clause-witness : goal.returns-clause-witness
returns-clause-witness c = λ p all within.
    c.assignment_without.ensures p (subst (All (IsSatisfied p)) (sym c.in_ok-number.ensures) all) within
