use Rattle.std.proofs.Common.{sym}
use Rattle.map_core.proofs.admit.side_of.Goals as goal

-- supersets of a conflict are conflicts
pub returns-in-Conflict : goal.returns-in-Conflict
returns-in-Conflict c = λ groups. sym c.in-Conflict.is
