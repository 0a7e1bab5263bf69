use Rattle.std.proofs.Common.{◌≡◌, ◌∙◌, map, sym, ap, subst}
use Rattle.gm_base.specs.Problem.{Problem, IsProblem}
use Rattle.lrat_steps.specs.Log.{Input, inputs_of}
use Rattle.cdcl_core.specs.Solver.{Solver}
use Rattle.evidence_rec.specs.Asking.{OracleState}
use Rattle.group_oracle.specs.Fresh.{IsFresh}
use Rattle.group_oracle.proofs.OracleLemmas.{twin_problem, twin_given}
use Rattle.group_oracle.proofs.oracle.GroupOracle.twin.Goals as goal

-- the inputs of the log are what the twin is given, so that the problem behind its log is the same one

pub fresh-requires-clause-well_formed : goal.fresh-requires-clause-well_formed
fresh-requires-clause-well_formed c =
    let a = c.self.inside in
    let log = c.in_ok-solver.solver.log in
    let is : log ≡ map Input (inputs_of a.solver.log) = ap (λ (s : Solver). s.log) c.in_ok-solver.ensures in
    subst IsProblem (sym (twin_problem a.vars a.groups a.solver.log log is)) c.self.invariant.well_formed

pub fresh-requires-clause-given : goal.fresh-requires-clause-given
fresh-requires-clause-given c =
    let a = c.self.inside in
    twin_given a.vars a.groups a.solver.log c.in_ok-solver.solver.log c.self.invariant.honest (ap (λ (s : Solver). s.log) c.in_ok-solver.ensures)

pub returns : goal.returns
returns c =
    let a = c.self.inside in
    let log = c.in_ok-solver.solver.log in
    let is : log ≡ map Input (inputs_of a.solver.log) = ap (λ (s : Solver). s.log) c.in_ok-solver.ensures in
    subst (λ (p : Problem). IsFresh p c.fresh.result)
    (twin_problem a.vars a.groups a.solver.log log is ∙ ap (λ (o : OracleState). o.problem) c.self.view_is) c.fresh.ensures
