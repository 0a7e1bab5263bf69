use Rattle.std.proofs.Common.{◌≡◌, ◌∙◌, ◌+◌, map, sym, ap, subst, arith}
use Rattle.gm_base.specs.Problem.{Problem, IsProblem}
use Rattle.gm_base.specs.Evidence.{selector_form}
use Rattle.lrat_steps.specs.Log.{Input}
use Rattle.cdcl_core.specs.Solver.{Solver}
use Rattle.group_oracle.specs.Fresh.{IsFresh}
use Rattle.group_oracle.proofs.SelectorLemmas.{problem_new}
use Rattle.group_oracle.proofs.LateLemmas.{given_form}
use Rattle.group_oracle.proofs.oracle.GroupOracle.new.Goals as goal

-- the clauses are those of the problem, over its variables and its selectors
pub over-requires-clause-literals : goal.over-requires-clause-literals
over-requires-clause-literals c =
    given_form c.args.problem.now (c.vars-vars.result + c.groups-groups.result) c.in_ok-given.given c.groups-groups.ensures.well_formed
    (omega (arith, c.vars-vars.ensures, c.groups-groups.ensures.count)) c.in_ok-given.ensures

-- the problem behind the log is the one that was given

pub fresh-requires-clause-well_formed : goal.fresh-requires-clause-well_formed
fresh-requires-clause-well_formed c =
    let p = c.args.problem.now in
    let log = c.in_ok-solver.solver.log in
    let is : log ≡ map Input (selector_form p) = ap (λ (s : Solver). s.log) c.in_ok-solver.ensures ∙ ap (map Input) c.in_ok-given.ensures in
    subst IsProblem (sym (problem_new p c.vars-vars.result c.groups-groups.result log c.groups-groups.ensures.well_formed c.vars-vars.ensures c.groups-groups.ensures.count is))
    c.groups-groups.ensures.well_formed

pub fresh-requires-clause-given : goal.fresh-requires-clause-given
fresh-requires-clause-given c =
    let p = c.args.problem.now in
    let log = c.in_ok-solver.solver.log in
    let is : log ≡ map Input (selector_form p) = ap (λ (s : Solver). s.log) c.in_ok-solver.ensures ∙ ap (map Input) c.in_ok-given.ensures in
    subst (λ (q : Problem). log ≡ map Input (selector_form q))
    (sym (problem_new p c.vars-vars.result c.groups-groups.result log c.groups-groups.ensures.well_formed c.vars-vars.ensures c.groups-groups.ensures.count is)) is

pub returns : goal.returns
returns c =
    let p = c.args.problem.now in
    let log = c.in_ok-solver.solver.log in
    let is : log ≡ map Input (selector_form p) = ap (λ (s : Solver). s.log) c.in_ok-solver.ensures ∙ ap (map Input) c.in_ok-given.ensures in
    subst (λ (q : Problem). IsFresh q c.fresh.result)
    (problem_new p c.vars-vars.result c.groups-groups.result log c.groups-groups.ensures.well_formed c.vars-vars.ensures c.groups-groups.ensures.count is) c.fresh.ensures
