use Rattle.std.proofs.Common.{rules}
use Rattle.gm_ports.proofs.mem_file.MemFile.clear.Goals as goal

-- nothing is left of what it held
pub returns : goal.returns
returns c = search rules
