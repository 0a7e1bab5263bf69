use Rattle.std.proofs.Common.{◌∙◌, Option, List, Bool, subst}
use Rattle.std.specs.Prelude.{IfSome}
use Rattle.gm_base.specs.Problem.{Problem}
use Rattle.model_flips.specs.Rotation.{Satisfies}
use Rattle.known_sets.proofs.model_maker.grown_by.Goals as goal

-- what is shown is of the groups that are told to be left out, and flipping leaves the problem
pub returns-clause-grown : goal.returns-clause-grown
returns-clause-grown c =
    let out = c.in_ok-out.out in
    let flips = c.grow.new.flips in
    subst (λ (p : Problem). Satisfies p out c.in-Some.shown) (c.grow.ensures.flips ∙ c.begin.ensures)
    (subst (λ (o : Option (List Bool)). IfSome o (Satisfies flips out)) c.in-Some.is c.in_ok-shown.ensures.shown)
