use Rattle.std.proofs.Common.{take}
use Rattle.evidence_rec.specs.Asking.{IsSpent, IsHonestOver}
use Rattle.edit_session.specs.Opening.{IsSofar}
use Rattle.edit_session.proofs.corrections.regrow_all.Given as goal

-- the corrections before this place have grown
abbrev pub invariant-loop-at : goal.invariant-loop-at
invariant-loop-at g l =
    record {
      sofar : IsSofar l.old l.new l.records (take l.at l.records) l.opening;
      honest : IsHonestOver l.new (g.O.Oracle.state l.fn.oracle).log → IsHonestOver l.new (g.O.Oracle.state l.oracle).log;
      spent : IsSpent (g.O.Oracle.state l.fn.oracle) (g.O.Oracle.state l.oracle) l.fn.purse.left l.purse.left;
    }
