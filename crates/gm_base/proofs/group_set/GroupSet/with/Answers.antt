use Rattle.std.proofs.Common.{arith, subst}
use Rattle.gm_base.specs.Sets.{IsGroupSet}
use Rattle.gm_base.proofs.SetLemmas.{IsGroupSet-with, with_group-scan}
use Rattle.gm_base.proofs.group_set.GroupSet.with.Goals as goal

pub returns : goal.returns
returns c =
    with_group-scan c.args.self.now c.higher.groups.items c.deref-h-items-2.result.now c.args.g c.higher.h-index (cc) c.higher.invariant (omega arith)

pub invariant_of-result : goal.invariant_of-result
invariant_of-result c =
    IsGroupSet-with c.args.self.now c.higher.groups.items c.args.g (subst IsGroupSet c.self.view_is c.self.invariant) c.requires (returns c)
