use Rattle.std.proofs.Common.{◌≡◌, ◌+◌, ◌++◌, drop}
use Rattle.gcnf_text.specs.Chain.{clauses_from}
use Rattle.gcnf_text.proofs.chain.clauses_of.Given as goal

-- the clauses so far, and those of the links that are left, are all
abbrev pub invariant-loop-at : goal.invariant-loop-at
invariant-loop-at l = l.clauses ++ clauses_from l.size (l.at + 1) (drop l.at l.links) ≡ clauses_from l.size 1 l.links
