use Rattle.std.proofs.Common.{take}
use Rattle.size_counter.specs.Known.{KnowsAll}
use Rattle.size_counter.proofs.naming.set_of.Given as goal

-- the numbers so far
abbrev pub invariant-loop-number : goal.invariant-loop-number
invariant-loop-number l = KnowsAll l.set (take l.number-index l.numbers)
