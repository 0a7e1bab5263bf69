use Rattle.std.proofs.Common.{rules}
use Rattle.map_core.proofs.turn.Turn.refill_size.Goals as goal

-- twice the last grant, within what is available
pub returns : goal.returns
returns c = search rules
