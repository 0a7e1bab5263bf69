use Rattle.std.proofs.Common.{◌<◌}
use Rattle.std.specs.List.{AllWithin}
use Rattle.gm_base.proofs.index.start_from.Given as goal

-- what stands before this place is of groups below
abbrev pub invariant-loop-at : goal.invariant-loop-at
invariant-loop-at l = AllWithin (λ placed. placed.group < l.group) l.index 0 l.at
