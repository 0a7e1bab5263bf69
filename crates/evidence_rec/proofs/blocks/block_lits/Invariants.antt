use Rattle.std.proofs.Common.{◌≡◌, map, take}
use Rattle.evidence_rec.specs.Blocks.{block_lit}
use Rattle.evidence_rec.proofs.blocks.block_lits.Given as goal

-- the literals of the groups so far
abbrev pub invariant-loop-group : goal.invariant-loop-group
invariant-loop-group l = l.lits.items ≡ map (block_lit l.side) (take l.group-index l.group-items)
