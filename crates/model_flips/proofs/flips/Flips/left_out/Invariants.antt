use Rattle.model_flips.proofs.AscentLemmas.{AscendsTo}
use Rattle.model_flips.proofs.flips.Flips.left_out.Given as goal

-- the groups up to this one that are left out
abbrev pub invariant-loop-at : goal.invariant-loop-at
invariant-loop-at l = AscendsTo 0 l.at l.out
