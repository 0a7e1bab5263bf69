use Rattle.std.proofs.Common.{◌≡◌, not, take}
use Rattle.std.specs.List.{filter}
use Rattle.gm_base.specs.Sets.{has}
use Rattle.mus_shrink.proofs.order.parted.Given as goal

-- the groups before were told apart
abbrev pub invariant-loop-g : goal.invariant-loop-g
invariant-loop-g l =
    (l.parts.others.items ≡ filter (λ g. not (has l.last g)) (take l.g-index l.g-items))
    × (l.parts.last.items ≡ filter (has l.last) (take l.g-index l.g-items))
