use Rattle.size_counter.proofs.LevelLemmas.{LeavesTo}
use Rattle.size_counter.proofs.naming.Naming.level.Given as goal

-- of the groups so far the first that are sure were left out, as many as may count
abbrev pub invariant-loop-group : goal.invariant-loop-group
invariant-loop-group l = LeavesTo l.most l.self.alone l.group-items l.group-index l.order.items l.left
