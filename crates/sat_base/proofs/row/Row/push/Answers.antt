use Rattle.std.proofs.Common.{rules}
use Rattle.sat_base.proofs.row.Row.push.Goals as goal

-- the item is the last one, and no other answer is looked for
pub returns-clause-ok : goal.returns-clause-ok
returns-clause-ok g c = search rules
