use Rattle.std.proofs.Common.{◌≡◌}
use Rattle.model_flips.proofs.flips.Flips.put_back.Given as goal

-- the problem stays
abbrev pub invariant-loop : goal.invariant-loop
invariant-loop l = l.self ≡ l.fn.self
