use Rattle.token_text.proofs.PassLemmas.{IsPassed}
use Rattle.token_text.proofs.cursor.pass_space.Given as goal

abbrev pub invariant-loop-at : goal.invariant-loop-at
invariant-loop-at l = IsPassed l.text l.fn.from l.before l.line l.line_start l.at l.end
