use Rattle.std.proofs.Common.{◌∙◌, ◌≤◌, length, arith}
use Rattle.focus_roles.proofs.KeptLemmas.{kept-more, kept-same, kept-fit}
use Rattle.focus_roles.proofs.narrowing.narrow.Goals as goal
use Rattle.focus_roles.proofs.narrowing.narrow.Goals.{then-stays+in_ok-copy_of+in_ok-push, else-stays}

-- one clause more is kept where it stays
pub loop-at-preserved : goal.loop-at-preserved
loop-at-preserved c =
    let set = c.args.focus.now in
    let all = c.args.problem.now.clauses in
    let at = c.loop-at.at in
    let here = c.clause-clause.ensures.same in
    let so_far = c.loop-at.invariant in
    elim c.if-stays.branch [
      | then-stays+in_ok-copy_of+in_ok-push w ↦
          w.clauses-is
          ∙ kept-more set all c.loop-at.clauses _ at c.clause-clause.result.now _ here w.if-stays.ensures so_far w.in_ok-copy_of.ensures w.in_ok-push.ensures.ok
      | else-stays w ↦ w.clauses-is ∙ kept-same set all c.loop-at.clauses at c.clause-clause.result.now here w.if-stays.ensures so_far
    ]

-- what is kept of fitting clauses fits
pub new-requires-clause-well_formed : goal.new-requires-clause-well_formed
new-requires-clause-well_formed c =
    let low = c.loop-at-test.false in
    let long = c.len-at-end.ensures in
    let past : length c.args.problem.now.clauses ≤ c.loop-at.at = omega arith in
    kept-fit c.args.problem.now c.args.focus.now c.loop-at.at c.vars.result c.groups.result c.loop-at.clauses c.groups.ensures.well_formed c.vars.ensures
    c.groups.ensures.count c.loop-at.invariant past
