use Rattle.gm_ports.proofs.SureFilesLemmas.{unread-read}
use Rattle.gm_ports.proofs.sure_files.SureFilesFiles.read.Goals as goal

-- what was given is the front of what was unread
pub returns-clause-bytes : goal.returns-clause-bytes
returns-clause-bytes c = unread-read c.args.self.now c.read.new.self c.read.result _ _ c.read.ensures.state c.read.ensures.bytes
