use Rattle.std.proofs.Common.{◌≡◌, take, ltb, ◌++◌, ◌∷◌}
use Rattle.std.specs.List.{filter}
use Rattle.gm_base.proofs.group_set.GroupSet.with.Given as goal

abbrev pub invariant-lower : goal.invariant-lower
invariant-lower l = l.groups.items ≡ filter (λ h. ltb h l.g) (take l.h-index l.h-items)

abbrev pub invariant-higher : goal.invariant-higher
invariant-higher l =
    l.groups.items ≡ filter (λ h. ltb h l.g) l.self ++ (l.g ∷ filter (λ h. ltb l.g h) (take l.h-index l.h-items))
