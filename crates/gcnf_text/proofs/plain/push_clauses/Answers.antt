use Rattle.std.proofs.Common.{◌∙◌}
use Rattle.gcnf_text.proofs.PlainLemmas.{clauses-further}
use Rattle.gcnf_text.proofs.plain.push_clauses.Goals as goal

-- behind the lines so far comes that of the next clause
pub loop-at-preserved : goal.loop-at-preserved
loop-at-preserved c =
    c.in_ok-push_clause.ensures
    ∙ clauses-further c.args.out.now.items c.loop-at.out.items c.args.problem.now.clauses c.loop-at.at _ c.clause.ensures.same c.loop-at.invariant
