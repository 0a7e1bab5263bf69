use Rattle.std.proofs.Common.{◌≡◌}
use Rattle.model_flips.proofs.flips.Flips.begin.Given as goal

-- the problem stays
abbrev pub invariant-loop-at : goal.invariant-loop-at
invariant-loop-at l = l.self ≡ l.fn.self
