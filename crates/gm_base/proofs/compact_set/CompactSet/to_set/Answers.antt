use Rattle.std.proofs.Common.{rules}
use Rattle.gm_base.proofs.compact_set.CompactSet.to_set.Goals as goal

-- all up to the greatest group but those that are lacked
pub returns-in-Lacks : goal.returns-in-Lacks
returns-in-Lacks c = search rules
