use Rattle.std.proofs.Common.{◌≡◌, take, true}
use Rattle.std.specs.List.{list_all}
use Rattle.gm_base.specs.Sets.{has}
use Rattle.lawful_fakes.proofs.block.has_all.Given as goal

-- the set has all groups so far
abbrev pub invariant-loop-g : goal.invariant-loop-g
invariant-loop-g l = list_all (has l.set) (take l.g-index l.g-items) ≡ true
