use Rattle.std.proofs.Common.{◌∙◌}
use Rattle.group_oracle.proofs.SelectorLemmas.{given_more}
use Rattle.group_oracle.proofs.selectors.given_clauses.Goals as goal

-- the next clause stands at the end
pub loop-at-preserved : goal.loop-at-preserved
loop-at-preserved c =
    let p = c.args.problem.now in
    given_more p p.clauses c.loop-at.at c.clause.result.now c.deref.result.now c.loop-at.clauses c.push.new.self c.clause.ensures.same c.loop-at.invariant
    (c.deref.ensures.value ∙ c.in_ok-write_with_selector.ensures) c.in_ok-push.ensures.ok
