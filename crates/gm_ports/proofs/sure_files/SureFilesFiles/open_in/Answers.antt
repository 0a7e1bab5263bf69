use Rattle.gm_ports.proofs.SureFilesLemmas.{unread-opened}
use Rattle.gm_ports.proofs.sure_files.SureFilesFiles.open_in.Goals as goal

pub returns-clause-opened : goal.returns-clause-opened
returns-clause-opened c = unread-opened c.args.self.now c.open_in.new.self c.args.name.now _ c.open_in.ensures
