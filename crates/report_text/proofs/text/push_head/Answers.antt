use Rattle.std.proofs.Common.{arith}
use Rattle.std.proofs.lemmas.Grind.{common_steps}
use Rattle.report_text.proofs.text.push_head.Goals as goal

-- the second line says whether all sets are there
pub returns : goal.returns
returns c = grind (arith, common_steps)
