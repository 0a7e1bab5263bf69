use Rattle.std.proofs.Common.{sym, ◌∙◌}
use Rattle.lrat_steps.proofs.MarkLemmas.{read}
use Rattle.lrat_steps.proofs.log.Log.learned.Goals as goal

-- marks are no learnt clauses
pub returns : goal.returns
returns c = c.self.invariant.learned ∙ sym (read c.self.inside c.args.self.now c.self.view_is).learned
