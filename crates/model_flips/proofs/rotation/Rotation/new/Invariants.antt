use Rattle.model_flips.proofs.RotationLemmas.{AreListed}
use Rattle.model_flips.proofs.rotation.Rotation.new.Given as goal

-- the clauses so far are listed
abbrev pub invariant-loop-at : goal.invariant-loop-at
invariant-loop-at l = AreListed l.problem.clauses l.at l.vars l.places.items
