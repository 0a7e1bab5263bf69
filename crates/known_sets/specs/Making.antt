-- What models are made of.
use Rattle.std.specs.Prelude.{◌≡◌, IfSome}
use Rattle.gm_base.specs.Problem.{Problem}
use Rattle.model_flips.specs.Rotation.{IsListing}
use Rattle.known_sets.specs.declared.model_maker.ModelMaker.{ModelMaker}

-- all of it is of this problem
pub record MakesModelsOf (p : Problem) (m : ModelMaker) : Type 0 where
  pub problem : m.problem ≡ p
  pub flips : IfSome m.flips (λ q. q ≡ p)
  pub rotation : IfSome m.rotation (IsListing p.clauses)
