use Rattle.std.proofs.Common.{inr, arith}
use Rattle.token_text.proofs.run.with_digit.Goals as goal

-- ten times what is above a tenth of the greatest is above the greatest
pub returns-else-value-le-TENTH : goal.returns-else-value-le-TENTH
returns-else-value-le-TENTH c = inr (omega arith, omega arith)
