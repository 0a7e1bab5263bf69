use Rattle.std.proofs.Common.{rules, ◌≡◌, List, map, sym, ◌∙◌, ap, subst}
use Rattle.lrat_steps.specs.Log.{LogStep, Input}
use Rattle.cdcl_core.specs.Solver.{Solver}
use Rattle.cdcl_core.specs.Answers.{IsHonestlyPaid}
use Rattle.group_oracle.specs.Late.{solver_from}
use Rattle.group_oracle.proofs.LateLemmas.{given_unpaid}
use Rattle.group_oracle.proofs.late_solver.LateSolver.solve.Goals as goal

-- there was no solver, and there is none
pub returns-in_err-solver-clause-paid : goal.returns-in_err-solver-clause-paid
returns-in_err-solver-clause-paid c =
    let a = c.self.inside in
    let left = c.args.purse.now.left in
    let before : c.args.self.now.log ≡ map Input a.given = ap (λ (s : Solver). s.log) (sym c.self.view_is) ∙ ap (λ o. (solver_from a.vars a.given o).log) c.in_err-solver.ensures.err in
    subst (λ o. IsHonestlyPaid c.args.self.now.log (solver_from a.vars a.given o).log left left) (sym c.taken.ensures.none)
    (subst (λ (l : List LogStep). IsHonestlyPaid l (map Input a.given) left left) (sym before) (given_unpaid left a.given))

-- the log still has the given clauses, and no other answer is looked for
pub invariant_of-self : goal.invariant_of-self
invariant_of-self c = search rules
