use Rattle.std.proofs.Common.{rules}
use Rattle.gm_ports.proofs.whole.read_whole.Goals as goal

-- an opened input is read as it is
pub returns-in-Ok : goal.returns-in-Ok
returns-in-Ok c = search rules
