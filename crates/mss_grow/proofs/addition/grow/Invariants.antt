use Rattle.std.proofs.Common.{◌≤◌, ◌+◌, take}
use Rattle.evidence_rec.specs.Asking.{IsSpent, IsHonestOver}
use Rattle.mss_grow.specs.Growth.{IsGrowth}
use Rattle.mss_grow.proofs.addition.grow.Given as goal

-- the groups before are settled
abbrev pub invariant-loop-g : goal.invariant-loop-g
invariant-loop-g g l =
    record {
      growth : IsGrowth l.problem l.set (take l.g-index l.g-items) l.growth;
      asks : (g.O.Oracle.state l.oracle).asks ≤ (g.O.Oracle.state l.fn.oracle).asks + l.g-index;
      honest : IsHonestOver l.problem (g.O.Oracle.state l.fn.oracle).log → IsHonestOver l.problem (g.O.Oracle.state l.oracle).log;
      spent : IsSpent (g.O.Oracle.state l.fn.oracle) (g.O.Oracle.state l.oracle) l.fn.purse.left l.purse.left;
    }
