-- What a solver is to its callers.
use Rattle.std.specs.Prelude.{ℕ, Bool, List}
use Rattle.lrat_steps.specs.Log.{LogStep}

pub record Solver : Type 0 where
  pub vars : ℕ
  pub log : List LogStep
  -- it decides positive literals only
  pub true_first : Bool
  -- it was out of memory, and answers no more
  pub broken : Bool
