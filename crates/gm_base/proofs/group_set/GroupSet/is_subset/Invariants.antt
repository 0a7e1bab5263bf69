use Rattle.std.proofs.Common.{◌≡◌, true, take}
use Rattle.std.specs.List.{list_all}
use Rattle.gm_base.specs.Sets.{has}
use Rattle.gm_base.proofs.group_set.GroupSet.is_subset.Given as goal

abbrev pub invariant-loop-g : goal.invariant-loop-g
invariant-loop-g l = list_all (has l.other) (take l.g-index l.g-items) ≡ true
