use Rattle.std.proofs.Common.{◌≡◌}
use Rattle.known_sets.proofs.model_maker.grow.Given as goal

-- problem and refuted sets stay
abbrev pub invariant-loop-at : goal.invariant-loop-at
invariant-loop-at l = (l.flips ≡ l.fn.flips) × (l.refuted ≡ l.fn.refuted)
