use Rattle.std.proofs.Common.{arith}
use Rattle.std.proofs.lemmas.Grind.{common_steps}
use Rattle.report_text.specs.Report.{report_text}
use Rattle.report_text.proofs.text.text_in_order.Goals as goal

-- the head, the conflicts, the corrections and the counts
pub returns : goal.returns
unfolding report_text
returns c = grind (arith, common_steps)
