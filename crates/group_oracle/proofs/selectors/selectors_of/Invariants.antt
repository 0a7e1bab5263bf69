use Rattle.std.proofs.Common.{◌≡◌, map, take}
use Rattle.group_oracle.specs.Selectors.{on}
use Rattle.group_oracle.proofs.selectors.selectors_of.Given as goal

-- the selectors of the groups so far
abbrev pub invariant-loop-group : goal.invariant-loop-group
invariant-loop-group l = l.lits.items ≡ map (on l.vars) (take l.group-index l.group-items)
