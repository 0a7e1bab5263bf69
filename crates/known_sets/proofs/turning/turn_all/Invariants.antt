use Rattle.std.specs.Prelude.{All}
use Rattle.model_flips.specs.Rotation.{IsListing}
use Rattle.known_sets.specs.Entries.{IsSatisfied}
use Rattle.known_sets.proofs.turning.turn_all.Given as goal

-- what is remembered stays right
abbrev pub invariant-loop-turn : goal.invariant-loop-turn
invariant-loop-turn l = IsListing l.problem.clauses l.rotation → All (IsSatisfied l.problem) l.fn.satisfied → All (IsSatisfied l.problem) l.satisfied
