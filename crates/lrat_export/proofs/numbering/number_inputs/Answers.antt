use Rattle.lrat_export.proofs.WalkLemmas.{input-further}
use Rattle.lrat_export.proofs.numbering.number_inputs.Goals as goal

-- one clause further
pub loop-at-preserved : goal.loop-at-preserved
loop-at-preserved c =
    input-further c.args.problem.now c.args.set.now c.loop-at.at c.loop-at.next c.in_ok-next.next c.loop-at.entries.items c.add.new.entries.items c.clause.result.now c.is_present-stays.result
    c.clause.ensures.same c.clause.ensures.fits c.is_present-stays.ensures c.loop-at.invariant
    (λ known lits is are. c.in_ok-next.ensures c.args.problem.now.vars c.args.set.now known lits is are)
