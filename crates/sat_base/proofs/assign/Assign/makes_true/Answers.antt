use Rattle.std.proofs.Common.{rules}
use Rattle.sat_base.proofs.assign.Assign.makes_true.Goals as goal

-- a negative literal has the other value than its variable, and no other answer is looked for
pub returns-else-number-gt0 : goal.returns-else-number-gt0
returns-else-number-gt0 c = search rules
