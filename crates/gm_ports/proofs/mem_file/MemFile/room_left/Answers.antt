use Rattle.std.proofs.Common.{rules}
use Rattle.gm_ports.proofs.mem_file.MemFile.room_left.Goals as goal

-- what it holds counts against its room
pub returns : goal.returns
returns c = search rules
