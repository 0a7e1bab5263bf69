use Rattle.std.proofs.Common.{◌≡◌, map, take}
use Rattle.group_oracle.proofs.GroupLemmas.{group_of}
use Rattle.group_oracle.proofs.cores.group_numbers.Given as goal

-- the groups of the literals so far
abbrev pub invariant-loop-lit : goal.invariant-loop-lit
invariant-loop-lit l = l.groups.items ≡ map (group_of l.vars) (take l.lit-index l.lits)
