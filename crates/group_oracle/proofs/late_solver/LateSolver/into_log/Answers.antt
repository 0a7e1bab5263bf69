use Rattle.std.proofs.Common.{◌≡◌, map, sym, subst}
use Rattle.lrat_steps.specs.Log.{Input}
use Rattle.lrat_steps.specs.Honest.{IsHonest}
use Rattle.group_oracle.proofs.SelectorLemmas.{honest-inputs}
use Rattle.group_oracle.proofs.late_solver.LateSolver.into_log.Goals as goal

-- clauses that were given are all that stands there
pub returns-clause-honest : goal.returns-clause-honest
returns-clause-honest c =
    let a = c.self.inside in
    let is : a.log ≡ map Input a.given = rw c.in-None.is at c.self.invariant.waiting in
    subst IsHonest (sym is) (honest-inputs a.given)
