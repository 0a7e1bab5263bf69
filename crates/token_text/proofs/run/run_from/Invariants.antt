use Rattle.token_text.proofs.RunLemmas.{IsRead}
use Rattle.token_text.proofs.run.run_from.Given as goal

abbrev pub invariant-loop-at : goal.invariant-loop-at
invariant-loop-at l = IsRead l.text l.start l.at l.end l.digits l.value
