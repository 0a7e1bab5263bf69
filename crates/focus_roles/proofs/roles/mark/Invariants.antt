use Rattle.std.proofs.Common.{take}
use Rattle.map_core.specs.Tallies.{IsMet}
use Rattle.focus_roles.proofs.roles.mark.Given as goal

-- the groups so far are marked
abbrev pub invariant-loop-g : goal.invariant-loop-g
invariant-loop-g l = IsMet (take l.g-index l.set) l.fn.marks.items l.marks.items
