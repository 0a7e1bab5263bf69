use Rattle.gm_base.specs.Sets.{IsSubset, all_groups}
use Rattle.evidence_rec.specs.Asking.{IsSpent, IsHonestOver}
use Rattle.edit_session.proofs.widening.widen.Given as goal

-- the set at hand has the start and groups of the problem alone
abbrev pub invariant-loop-at : goal.invariant-loop-at
invariant-loop-at g l =
    record {
      wider : IsSubset l.start.set l.together;
      within : IsSubset l.together (all_groups l.new.groups);
      honest : IsHonestOver l.new (g.O.Oracle.state l.fn.oracle).log → IsHonestOver l.new (g.O.Oracle.state l.oracle).log;
      spent : IsSpent (g.O.Oracle.state l.fn.oracle) (g.O.Oracle.state l.oracle) l.fn.purse.left l.purse.left;
    }
