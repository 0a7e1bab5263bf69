use Rattle.std.proofs.Common.{◌≡◌, take, true, not}
use Rattle.std.specs.List.{list_all}
use Rattle.gm_base.specs.Sets.{has}
use Rattle.lawful_fakes.proofs.block.has_none.Given as goal

-- the set has no group so far
abbrev pub invariant-loop-g : goal.invariant-loop-g
invariant-loop-g l = list_all (λ g. not (has l.set g)) (take l.g-index l.g-items) ≡ true
