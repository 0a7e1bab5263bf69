use Rattle.std.proofs.Common.{◌≡◌, take}
use Rattle.gm_base.specs.Sets.{without}
use Rattle.gm_base.proofs.group_set.GroupSet.without.Given as goal

abbrev pub invariant-loop-h : goal.invariant-loop-h
invariant-loop-h l = l.groups.items ≡ without (take l.h-index l.h-items) l.g
