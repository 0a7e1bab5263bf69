use Rattle.std.proofs.Common.{◌≡◌, ℕ, Bool, true, not, List, take, drop}
use Rattle.std.specs.List.{filter}
use Rattle.gm_base.specs.Sets.{has}
use Rattle.gm_base.specs.Evidence.{each_passes}
use Rattle.mus_shrink.proofs.OrderLemmas.{IsMerging}
use Rattle.mus_shrink.proofs.order.in_order.Given as goal

-- the groups before have their witnesses, and those of the others are still to come
abbrev pub invariant-loop-g : goal.invariant-loop-g
invariant-loop-g l =
    (test : ℕ → List Bool → Bool) → each_passes test (filter (λ g. not (has l.last g)) l.set) l.fn.others ≡ true
    → each_passes test (filter (has l.last) l.set) l.fn.lasts ≡ true
    → IsMerging test l.last (take l.g-index l.g-items) (drop l.g-index l.g-items) l.all.items l.others.rest.items l.lasts.rest.items
