use Rattle.std.proofs.Common.{rules}
use Rattle.cdcl_core.proofs.plan.Plan.next_planned.Goals as goal

-- where that is asked for, the literal was looked at to be positive, and no other answer is looked for
pub returns-then-is_positive-clause-positive : goal.returns-then-is_positive-clause-positive
returns-then-is_positive-clause-positive c = search rules
