use Rattle.std.proofs.Common.{◌≡◌}
use Rattle.power_map.proofs.TrueLemmas.{true_up_to}
use Rattle.power_map.proofs.sets.set_of.Given as goal

-- the groups so far that are true
abbrev pub invariant-loop-at : goal.invariant-loop-at
invariant-loop-at l = l.set ≡ true_up_to l.assign l.at
