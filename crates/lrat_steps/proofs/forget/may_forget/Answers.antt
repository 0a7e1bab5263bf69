use Rattle.std.proofs.Common.{rules}
use Rattle.lrat_steps.proofs.forget.may_forget.Goals as goal

-- the test is the definition's, and no other answer is looked for
pub returns : goal.returns
returns c = search rules
