use Rattle.std.specs.Prelude.{All}
use Rattle.model_flips.specs.Rotation.{IsListing, Satisfies}
use Rattle.known_sets.specs.Entries.{IsSatisfied}
use Rattle.known_sets.proofs.turning.turn_by_each.Given as goal

-- what is remembered stays right
abbrev pub invariant-loop-var : goal.invariant-loop-var
invariant-loop-var l = IsListing l.problem.clauses l.rotation → Satisfies l.problem l.out l.assign → All (IsSatisfied l.problem) l.fn.satisfied → All (IsSatisfied l.problem) l.satisfied
