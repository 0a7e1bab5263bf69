use Rattle.std.proofs.Common.{sym, ◌∙◌, arith}
use Rattle.edit_session.proofs.BreakLemmas.{within-here, within-later}
use Rattle.edit_session.proofs.extension.first_within.Goals as goal

-- this clause is of an old group
pub returns-then-clause-groups : goal.returns-then-clause-groups
returns-then-clause-groups c =
    sym (c.loop-at.invariant ∙ within-here c.args.old.now.groups c.args.new.now.clauses c.loop-at.at c.clause.result.now c.clause.ensures.same (let count = c.groups.ensures.count in omega arith))

pub loop-at-preserved : goal.loop-at-preserved
loop-at-preserved c =
    c.loop-at.invariant ∙ within-later c.args.old.now.groups c.args.new.now.clauses c.loop-at.at c.clause.result.now c.clause.ensures.same (let count = c.groups.ensures.count in omega arith)
