use Rattle.group_oracle.proofs.GroupLemmas.{IsSetSoFar}
use Rattle.group_oracle.proofs.cores.set_of.Given as goal

abbrev pub invariant-loop-group : goal.invariant-loop-group
invariant-loop-group l = IsSetSoFar l.groups l.group-index l.set l.last
