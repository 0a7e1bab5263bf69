-- What an oracle keeps between questions.
use Rattle.std.specs.Prelude.{◌≡◌, ℕ, ◌+◌, ◌-◌, ◌<◌, ◌^◌, true, List, ℤ, Some, IfSome, slice_get}
use Rattle.std.specs.Option.{option_map}
use Rattle.sat_base.specs.Members.{In}
use Rattle.gm_base.specs.Sets.{has}
use Rattle.gm_base.specs.Problem.{IsProblem}
use Rattle.lrat_steps.specs.Log.{LogStep, Core, lits_of, steps_of, step_at}
use Rattle.evidence_rec.specs.Asking.{OracleState, IsHonestOver}
use Rattle.group_oracle.specs.Selectors.{off, switched_off, problem_of}
use Rattle.group_oracle.specs.declared.oracle.GroupOracle.TheInside.{Inside}

-- the set that the clause of a step says is unsatisfiable: the groups that it switches off
abbrev pub refuted_at : ℕ → ℕ → List LogStep → ℕ → List ℕ
refuted_at vars groups log id = switched_off vars groups (lits_of (step_at log id))

-- the problem is the one behind the clauses of the log
abbrev pub view_of : Inside → OracleState
view_of a =
    record { problem = problem_of a.vars a.groups a.solver.log; log = a.solver.log; refuted = option_map (refuted_at a.vars a.groups a.solver.log) a.refuted; asks = a.asks }

-- the clause of this step says that some group of the set is off
pub record IsRefutedBy (vars : ℕ) (log : List LogStep) (set : List ℕ) (id : ℕ) : Type 0 where
  pub lits : List ℤ
  pub hints : List ℕ
  pub from_one : 0 < id
  pub step : slice_get (steps_of log) (id - 1) ≡ Some (Core lits hints)
  pub within : (l : ℤ) → In l lits → (g : ℕ) × (has set g ≡ true) × (l ≡ off vars g)

-- the solver has the clauses of the problem with their selectors, and a step of its log refutes the last set
pub record IsOracle (a : Inside) : Type 0 where
  pub vars : a.solver.vars ≡ a.vars + a.groups
  pub small : a.vars + a.groups < 2 ^ 31
  pub well_formed : IsProblem (problem_of a.vars a.groups a.solver.log)
  pub honest : IsHonestOver (problem_of a.vars a.groups a.solver.log) a.solver.log
  pub refuted : IfSome a.refuted (λ id. IsRefutedBy a.vars a.solver.log (refuted_at a.vars a.groups a.solver.log id) id)
