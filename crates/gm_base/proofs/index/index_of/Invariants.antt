use Rattle.gm_base.proofs.IndexLemmas.{IsIndexUpTo}
use Rattle.gm_base.proofs.index.index_of.Given as goal

-- the clauses so far are in the index
abbrev pub invariant-loop-clause : goal.invariant-loop-clause
invariant-loop-clause l = IsIndexUpTo l.clauses l.clause-index l.index.items
