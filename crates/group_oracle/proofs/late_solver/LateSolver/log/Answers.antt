use Rattle.std.proofs.Common.{sym, ◌∙◌, ap, subst}
use Rattle.lrat_steps.specs.Honest.{IsHonest}
use Rattle.cdcl_core.specs.Solver.{Solver}
use Rattle.group_oracle.specs.Late.{solver_from}
use Rattle.group_oracle.proofs.SelectorLemmas.{honest-inputs}
use Rattle.group_oracle.proofs.late_solver.LateSolver.log.Goals as goal

-- clauses that were given are all that stands there
pub returns-in-None-clause-honest : goal.returns-in-None-clause-honest
returns-in-None-clause-honest c =
    let a = c.self.inside in
    subst IsHonest (sym (ap (λ o. (solver_from a.vars a.given o).log) c.in-None.is) ∙ ap (λ (s : Solver). s.log) c.self.view_is) (honest-inputs a.given)
