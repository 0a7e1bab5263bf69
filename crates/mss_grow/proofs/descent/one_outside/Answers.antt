use Rattle.std.proofs.Common.{arith}
use Rattle.gm_base.proofs.SetLemmas.{IsSubset-from_scan}
use Rattle.mss_grow.proofs.descent.one_outside.Goals as goal

-- not all of them can be
pub unreachable-requires : goal.unreachable-requires
unreachable-requires c =
    c.requires
    (IsSubset-from_scan c.args.core.now c.args.set.now c.as_slice-g-items.result.now c.loop-g.g-index c.as_slice-g-items.ensures.groups (omega arith) c.loop-g.invariant)
