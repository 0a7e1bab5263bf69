use Rattle.std.proofs.Common.{sym, ◌∙◌, subst}
use Rattle.gm_base.specs.Sets.{IsSubset, all_groups}
use Rattle.mus_shrink.specs.Shrunk.{TellsShrunk}
use Rattle.worker_pool.proofs.Settled.{shrunk}
use Rattle.worker_pool.proofs.marco.shrink_core.Goals as goal

-- what shrinking ends with is within the core, and so within the seed
pub returns-in-Done-clause-explored : goal.returns-in-Done-clause-explored
returns-in-Done-clause-explored g c =
    let o = g.O.Oracle.state c.shrink_keeping.new.oracle in
    let same = c.shrink_keeping.ensures.spent.problem ∙ c.requires.problem in
    let told = subst (TellsShrunk o c.args.core.now c.shrink_keeping.new.purse.left) c.in-Done.is c.in_ok-record.ensures.shrunk in
    shrunk o.problem c.args.core.now c.args.seed.now c.in-Done.record (subst (λ p. IsSubset c.args.seed.now (all_groups p.groups)) (sym same) c.requires.within) c.requires.part told.0 told.2
