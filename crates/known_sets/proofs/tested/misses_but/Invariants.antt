use Rattle.std.proofs.Common.{◌≡◌, take, true, not}
use Rattle.std.specs.List.{list_all}
use Rattle.gm_base.specs.Sets.{has, without}
use Rattle.known_sets.proofs.tested.misses_but.Given as goal

-- the set without the one has no group so far
abbrev pub invariant-loop-group : goal.invariant-loop-group
invariant-loop-group l = list_all (λ g. not (has (without l.set l.but) g)) (take l.group-index l.groups) ≡ true
