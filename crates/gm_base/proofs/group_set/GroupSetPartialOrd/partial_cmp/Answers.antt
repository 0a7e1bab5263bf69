use Rattle.std.proofs.Common.{rules}
use Rattle.gm_base.proofs.group_set.GroupSetPartialOrd.partial_cmp.Goals as goal

-- as the lists compare
pub returns : goal.returns
returns c = search rules
