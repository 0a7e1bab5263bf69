use Rattle.std.proofs.Common.{rules}
use Rattle.evidence_rec.proofs.refutation.goal_refusal.Goals as goal

-- the literals of the clause are looked at
pub returns-then-are_left_out : goal.returns-then-are_left_out
returns-then-are_left_out c = search rules

pub returns-else-are_left_out : goal.returns-else-are_left_out
returns-else-are_left_out c = search rules
