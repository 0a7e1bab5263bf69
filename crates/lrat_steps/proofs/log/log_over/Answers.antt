use Rattle.std.proofs.Common.{refl, arith}
use Rattle.lrat_steps.proofs.LayoutLemmas.{laid_out_over}
use Rattle.lrat_steps.proofs.log.log_over.Goals as goal

-- its clauses are all inputs
pub invariant_of-result : goal.invariant_of-result
invariant_of-result c =
    laid_out_over (record { shown = c.args.shown; records = c.new.result; steps = c.new-2.result; marks = c.new-3.result; inputs = c.len-inputs.result; learned = 0; live = 0 })
    (record { records = c.new.ensures.items; steps = c.new-2.ensures; marks = c.new-3.ensures.items; inputs = c.len-inputs.ensures; learned = refl; live = refl; few = omega arith })
