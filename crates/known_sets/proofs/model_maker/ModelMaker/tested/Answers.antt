use Rattle.std.proofs.Common.{◌≡◌, true, subst}
use Rattle.std.specs.Prelude.{IfSome}
use Rattle.gm_base.specs.Problem.{Problem}
use Rattle.gm_base.specs.Evidence.{is_witness}
use Rattle.known_sets.proofs.model_maker.ModelMaker.tested.Goals as goal

-- the problem is this one
pub returns : goal.returns
returns c = λ p right. subst (λ (q : Problem). IfSome c.tested.result (λ shown. is_witness q c.args.set.now shown ≡ true)) right.problem c.tested.ensures
