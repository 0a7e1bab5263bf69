use Rattle.std.proofs.Common.{◌∙◌, ap}
use Rattle.gm_base.specs.Sets.{has}
use Rattle.model_flips.proofs.RotationLemmas.{has-with-kept}
use Rattle.model_flips.proofs.rotation.with_false.Goals as goal

pub returns-clause-keeps : goal.returns-clause-keeps
returns-clause-keeps c = λ g was. ap (λ s. has s g) c.in_ok-more.ensures ∙ has-with-kept c.args.out c.clause-clause.result.now.group g was

-- where a clause of the background is false, nothing is told
pub returns-then-clause-eq0-clause-lost : goal.returns-then-clause-eq0-clause-lost
returns-then-clause-eq0-clause-lost c = tt
