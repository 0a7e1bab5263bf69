use Rattle.gm_ports.proofs.MemFilesPort.{unread_of-read, if_ok}
use Rattle.gm_ports.proofs.mem_files.MemFilesFiles.read.Goals as goal

-- what was given is the front of what was unread
pub returns-clause-bytes : goal.returns-clause-bytes
returns-clause-bytes c =
    if_ok c.read.result _ _ _ c.read.ensures.bytes c.read.ensures.ok (λ n front now.
    unread_of-read c.args.self.now c.read.new.self n _ _ now front)
