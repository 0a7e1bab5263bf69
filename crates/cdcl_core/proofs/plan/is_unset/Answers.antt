use Rattle.std.proofs.Common.{rules}
use Rattle.cdcl_core.proofs.plan.is_unset.Goals as goal

-- a literal of the trail's variables is one of them where it has no value, and no other answer is looked for
pub returns-then-var-vars : goal.returns-then-var-vars
returns-then-var-vars c = search rules
