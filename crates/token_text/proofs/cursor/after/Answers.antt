use Rattle.std.proofs.Common.{rules}
use Rattle.token_text.proofs.PassLemmas.{passes_blank, passes_return}
use Rattle.token_text.proofs.cursor.after.Goals as goal

pub returns-in_default-eq13-clause-passes : goal.returns-in_default-eq13-clause-passes
returns-in_default-eq13-clause-passes c = passes_return _ _ c.in_default-eq13.not-Comment-0 c.in_default-eq13.is-1

pub returns-in_default-eq13-2-clause-passes : goal.returns-in_default-eq13-2-clause-passes
returns-in_default-eq13-2-clause-passes c = passes_return _ _ c.in_default-eq13.not-Comment-0 c.in_default-eq13.is-1

pub returns-in_default-eq32-clause-passes : goal.returns-in_default-eq32-clause-passes
returns-in_default-eq32-clause-passes c = passes_blank _ _ c.in_default-eq32.is-1

pub returns-in_default-eq32-2-clause-passes : goal.returns-in_default-eq32-2-clause-passes
returns-in_default-eq32-2-clause-passes c = passes_blank _ _ c.in_default-eq32.is-1

-- a comment is no token
pub returns-in-Blanks-eq99-clause-begins : goal.returns-in-Blanks-eq99-clause-begins
returns-in-Blanks-eq99-clause-begins c = search rules
