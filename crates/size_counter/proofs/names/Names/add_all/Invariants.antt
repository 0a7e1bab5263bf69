use Rattle.size_counter.proofs.NameLemmas.{AddedTo}
use Rattle.size_counter.proofs.names.Names.add_all.Given as goal

-- the numbers so far were added
abbrev pub invariant-loop-number : goal.invariant-loop-number
invariant-loop-number l = AddedTo l.fn.self l.numbers l.number-index l.self
