-- A solver that is made when it is needed first, of the clauses that it was given.
use Rattle.std.specs.Prelude.{◌≡◌, ℕ, ◌<◌, ◌^◌, false, List, map, ℤ, Option, Some, None, IfNone, All}
use Rattle.sat_base.specs.Literals.{AreLiterals}
use Rattle.lrat_steps.specs.Log.{Input, inputs_of}
use Rattle.cdcl_core.specs.Solver.{Solver}
use Rattle.group_oracle.specs.declared.late_solver.LateSolver.TheInside.{Inside}

-- a solver that was given these clauses
abbrev pub new_over : ℕ → List (List ℤ) → Solver
new_over vars given = record { vars = vars; log = map Input given; true_first = false; broken = false }

-- the solver that was made, or the one that is to be
abbrev pub solver_from : ℕ → List (List ℤ) → Option Solver → Solver
solver_from vars given None = new_over vars given
solver_from vars given (Some solver) = solver

abbrev pub solver_of : Inside → Solver
solver_of a = solver_from a.vars a.given a.solver

-- the inputs are the given clauses, and until there is a solver the log has them alone
pub record IsLate (a : Inside) : Type 0 where
  pub small : a.vars < 2 ^ 31
  pub literals : All (AreLiterals a.vars) a.given
  pub waiting : IfNone a.solver (a.log ≡ map Input a.given)
  pub inputs : inputs_of (solver_of a).log ≡ a.given
  pub vars : (solver_of a).vars ≡ a.vars
