use Rattle.std.proofs.Common.{◌≤◌, ◌+◌, length}
use Rattle.gm_base.specs.Sets.{IsSubset, all_groups, complement}
use Rattle.evidence_rec.specs.Asking.{IsSpent, IsHonestOver}
use Rattle.mss_grow.specs.Growth.{left_out}
use Rattle.mss_grow.proofs.descent.grow_down.Given as goal

-- the set at hand keeps the given one, and for each question there is a group outside of that which it lacks
abbrev pub invariant-cores : goal.invariant-cores
invariant-cores g l =
    record {
      keeps : IsSubset l.set l.large;
      within : IsSubset l.large (all_groups l.problem.groups);
      asks : (g.O.Oracle.state l.oracle).asks + length (left_out l.set l.large) ≤ (g.O.Oracle.state l.fn.oracle).asks + length (complement l.problem.groups l.set);
      fewer : length (complement l.problem.groups l.large) ≤ length (complement l.problem.groups l.set);
      honest : IsHonestOver l.problem (g.O.Oracle.state l.fn.oracle).log → IsHonestOver l.problem (g.O.Oracle.state l.oracle).log;
      spent : IsSpent (g.O.Oracle.state l.fn.oracle) (g.O.Oracle.state l.oracle) l.fn.purse.left l.purse.left;
    }

-- it loses a group outside of the given one each time
abbrev pub decreases-cores : goal.decreases-cores
decreases-cores g l = length (left_out l.set l.large)
