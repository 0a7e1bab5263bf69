use Rattle.std.proofs.Common.{◌∙◌}
use Rattle.lrat_export.proofs.WritingLemmas.{lines-further}
use Rattle.lrat_export.proofs.cnf.push_present.Goals as goal

-- behind the lines so far comes that of the next clause
pub loop-at-preserved : goal.loop-at-preserved
loop-at-preserved c =
    c.in_ok-push_if_present.ensures
    ∙ lines-further c.args.out.now.items c.loop-at.out.items c.args.set.now c.args.problem.now.clauses c.loop-at.at _ c.clause.ensures.same c.loop-at.invariant
