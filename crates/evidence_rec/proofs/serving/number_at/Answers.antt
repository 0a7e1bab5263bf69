use Rattle.std.proofs.Common.{arith}
use Rattle.evidence_rec.proofs.serving.number_at.Goals as goal

-- a bit counts from the first number of its block
pub returns : goal.returns
returns c = omega arith
