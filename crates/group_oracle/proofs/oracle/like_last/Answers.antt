use Rattle.std.proofs.Common.{rules}
use Rattle.group_oracle.proofs.oracle.like_last.Goals as goal

-- sharing leaves the values, and no other answer is looked for
pub returns : goal.returns
returns c = search rules
