use Rattle.std.proofs.Common.{List, subst}
use Rattle.sat_base.specs.Derivation.{Step, HasIds}
use Rattle.sat_base.proofs.NumberingLemmas.{renumbered_fit}
use Rattle.sat_base.proofs.cone.Cone.ids_fit.Goals as goal

-- each number is small, whatever the step
pub returns : goal.returns
returns c =
    subst (λ (steps : List Step). HasIds (record { steps = steps; goal = c.args.goal })) c.self.view_is
    (renumbered_fit c.self.inside.by c.self.inside.steps.items c.args.goal c.is_small.ensures c.requires)
