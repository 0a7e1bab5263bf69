use Rattle.std.proofs.Common.{subst}
use Rattle.clause_store.specs.Clauses.{Clauses}
use Rattle.sat_base.specs.Database.{AreOver}
use Rattle.clause_store.proofs.RecordLemmas.{over_all}
use Rattle.clause_store.proofs.store.Store.vars.Goals as goal

-- each clause is cut from literals over the variables
pub returns-clause-over : goal.returns-clause-over
returns-clause-over c =
    subst (λ (store : Clauses). AreOver store.vars store.clauses) c.self.view_is
    (over_all c.self.inside.vars c.self.inside.lits.items c.self.inside.records.items c.self.invariant.over)
