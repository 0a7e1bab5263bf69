use Rattle.std.proofs.Common.{◌≡◌, true, take}
use Rattle.std.specs.List.{list_all}
use Rattle.gm_base.specs.Sets.{has}
use Rattle.mss_grow.proofs.descent.one_outside.Given as goal

-- the groups before are in the set
abbrev pub invariant-loop-g : goal.invariant-loop-g
invariant-loop-g l = list_all (has l.set) (take l.g-index l.g-items) ≡ true
