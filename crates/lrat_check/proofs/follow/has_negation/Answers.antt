use Rattle.std.proofs.Common.{arith}
use Rattle.std.proofs.lemmas.Grind.{common_steps}
use Rattle.lrat_check.proofs.follow.has_negation.Goals as goal

-- one whose negation is marked is among the literals
pub returns-then-is_marked : goal.returns-then-is_marked
returns-then-is_marked c = grind (arith, common_steps)
