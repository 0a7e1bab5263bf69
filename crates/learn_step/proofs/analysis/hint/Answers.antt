use Rattle.std.proofs.Common.{rules}
use Rattle.learn_step.proofs.analysis.hint.Goals as goal

-- a value without a unit step has its reason as hint, and no other answer is looked for
pub returns-in-None : goal.returns-in-None
returns-in-None c = search rules
