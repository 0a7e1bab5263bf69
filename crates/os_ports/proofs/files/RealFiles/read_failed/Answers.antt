use Rattle.std.proofs.Common.{rules}
use Rattle.os_ports.proofs.files.RealFiles.read_failed.Goals as goal

-- one more is above what was counted, unless that was the most that can be
pub returns-clause-rose : goal.returns-clause-rose
returns-clause-rose g c = search rules
