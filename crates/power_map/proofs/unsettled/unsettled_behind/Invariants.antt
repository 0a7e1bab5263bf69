use Rattle.std.proofs.Common.{◌≡◌, take}
use Rattle.std.specs.List.{filter}
use Rattle.power_map.specs.Unsettled.{leaves}
use Rattle.power_map.proofs.unsettled.unsettled_behind.Given as goal

-- those of the groups before that the block leaves
abbrev pub invariant-loop-g : goal.invariant-loop-g
invariant-loop-g l = l.left.items ≡ filter (leaves l.side l.set) (take l.g-index l.g-items)
