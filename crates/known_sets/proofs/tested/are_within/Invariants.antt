use Rattle.std.proofs.Common.{◌≡◌, take, true}
use Rattle.std.specs.List.{list_all}
use Rattle.gm_base.specs.Sets.{has, with_group}
use Rattle.known_sets.proofs.tested.are_within.Given as goal

-- the set with the one has all groups so far
abbrev pub invariant-loop-group : goal.invariant-loop-group
invariant-loop-group l = list_all (has (with_group l.set l.more)) (take l.group-index l.groups) ≡ true
