-- What a solver keeps between calls.
use Rattle.std.specs.Prelude.{◌≡◌, false}
use Rattle.lrat_steps.specs.Log.{inputs_of}
use Rattle.lrat_steps.specs.Honest.{IsHonest}
use Rattle.cdcl_core.specs.Solver.{Solver}
use Rattle.cdcl_core.specs.State.{AreTouched}
use Rattle.cdcl_core.specs.Search.{IsReady}
use Rattle.cdcl_core.specs.declared.solver.Solver.TheInside.{Inside}

abbrev pub view_of : Inside → Solver
view_of a = record { vars = a.search.trail.vars; log = a.search.log; true_first = a.search.true_first; broken = a.broken }

-- the log is honest, what the inputs have against the default is touched, and a search can go on from the trail, but where
-- memory was wanting
pub record IsSolver (a : Inside) : Type 0 where
  pub honest : IsHonest a.search.log
  pub touched : AreTouched a.search.true_first a.search.trail.touched (inputs_of a.search.log)
  pub ready : a.broken ≡ false → IsReady a.search
