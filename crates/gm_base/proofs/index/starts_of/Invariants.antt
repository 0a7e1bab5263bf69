use Rattle.gm_base.proofs.IndexLemmas.{StartsUpTo}
use Rattle.gm_base.proofs.index.starts_of.Given as goal

-- the groups so far have their starts
abbrev pub invariant-loop-group : goal.invariant-loop-group
invariant-loop-group l = StartsUpTo l.index l.group l.at l.starts.items
