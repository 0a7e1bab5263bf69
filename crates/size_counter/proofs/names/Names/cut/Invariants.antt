use Rattle.std.proofs.Common.{length}
use Rattle.size_counter.proofs.KnownLemmas.{CutTo}
use Rattle.size_counter.proofs.names.Names.cut.Given as goal

-- the first numbers, as many as are left
abbrev pub invariant-loop-self : goal.invariant-loop-self
invariant-loop-self l = CutTo l.fn.self l.len l.self-inside.known l.self-inside.named.items

abbrev pub decreases-loop-self : goal.decreases-loop-self
decreases-loop-self l = length l.self-inside.named.items
