use Rattle.std.proofs.Common.{arith}
use Rattle.gm_base.proofs.SetLemmas.{IsGroupSet-without}
use Rattle.gm_base.proofs.group_set.GroupSet.without.Goals as goal

pub invariant_of-result : goal.invariant_of-result
invariant_of-result c =
    IsGroupSet-without c.self.inside.groups.items c.loop-h.groups.items c.deref-h-items.result.now c.args.g c.loop-h.h-index (cc) c.self.invariant c.loop-h.invariant (omega arith)
