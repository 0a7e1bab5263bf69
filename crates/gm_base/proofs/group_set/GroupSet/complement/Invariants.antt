use Rattle.gm_base.proofs.SetLemmas.{Merged}
use Rattle.gm_base.proofs.group_set.GroupSet.complement.Given as goal

-- the groups up to i are done
abbrev pub invariant-loop-i : goal.invariant-loop-i
invariant-loop-i l = Merged l.self l.rest.items l.i l.at
