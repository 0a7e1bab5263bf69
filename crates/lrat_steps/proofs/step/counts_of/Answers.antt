use Rattle.std.proofs.Common.{rules}
use Rattle.lrat_steps.proofs.step.counts_of.Goals as goal

-- a core is no learnt clause, and no other answer is looked for
pub returns-in-Core-clause-learned : goal.returns-in-Core-clause-learned
returns-in-Core-clause-learned c = search rules
