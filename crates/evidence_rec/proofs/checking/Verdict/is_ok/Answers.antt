use Rattle.std.proofs.Common.{rules}
use Rattle.evidence_rec.proofs.checking.Verdict.is_ok.Goals as goal

-- no line is refused
pub returns-in-Ok : goal.returns-in-Ok
returns-in-Ok c = search rules
