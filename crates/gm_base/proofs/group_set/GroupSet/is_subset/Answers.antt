use Rattle.std.proofs.Common.{arith, refl}
use Rattle.std.proofs.lemmas.Grind.{common_steps}
use Rattle.gm_base.proofs.SetLemmas.{IsSubset-from_scan}
use Rattle.gm_base.proofs.group_set.GroupSet.is_subset.Goals as goal

pub returns : goal.returns
returns c =
    (λ _. IsSubset-from_scan c.args.self.now c.args.other.now c.deref-g-items.result.now c.loop-g.g-index (cc) (omega arith) c.loop-g.invariant, λ _. refl)

-- a group that the other lacks
pub returns-then-not-contains : goal.returns-then-not-contains
returns-then-not-contains c = grind (arith, common_steps)
