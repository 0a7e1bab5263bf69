-- What is remembered of a problem.
use Rattle.std.specs.Prelude.{All}
use Rattle.gm_base.specs.Problem.{Problem}
use Rattle.known_sets.specs.declared.memory.Memory.{Memory}
use Rattle.known_sets.specs.Entries.{IsSatisfied}
use Rattle.known_sets.specs.Refuted.{AreRefuted}
use Rattle.known_sets.specs.Making.{MakesModelsOf}

-- all that is remembered is right for the problem
pub record IsRightFor (p : Problem) (m : Memory) : Type 0 where
  pub refuted : AreRefuted p m.refuted
  pub satisfied : All (IsSatisfied p) m.satisfied
  pub models : MakesModelsOf p m.models
