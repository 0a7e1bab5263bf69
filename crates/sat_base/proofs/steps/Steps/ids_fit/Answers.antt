use Rattle.std.proofs.Common.{subst}
use Rattle.sat_base.specs.Derivation.{HasIds}
use Rattle.sat_base.proofs.SpanLemmas.{ids_of}
use Rattle.sat_base.proofs.steps.Steps.ids_fit.Goals as goal

-- each number was small when it was put in
pub returns : goal.returns
returns c = subst (λ ss. HasIds (record { steps = ss; goal = c.args.goal })) c.self.view_is (ids_of c.self.inside c.args.goal c.self.invariant c.requires)
