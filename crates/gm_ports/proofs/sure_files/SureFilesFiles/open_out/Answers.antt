use Rattle.gm_ports.proofs.SureFilesLemmas.{opened-output, opened-made, opened-written, opened-leaves, told-holds}
use Rattle.gm_ports.proofs.sure_files.SureFilesFiles.open_out.Goals as goal

-- a name with room is the output now, and without room nothing is told any more
pub returns-clause-opened : goal.returns-clause-opened
returns-clause-opened c = opened-output c.args.self.now c.open_out.new.self c.args.name.now _ c.open_out.ensures.kept c.open_out.ensures.lost

pub returns-clause-made : goal.returns-clause-made
returns-clause-made c = opened-made c.args.self.now c.open_out.new.self c.args.name.now _ c.open_out.ensures.kept c.open_out.ensures.lost

pub returns-clause-written : goal.returns-clause-written
returns-clause-written c = opened-written c.args.self.now c.open_out.new.self c.args.name.now _ c.open_out.ensures.kept c.open_out.ensures.lost

pub returns-clause-holds : goal.returns-clause-holds
returns-clause-holds c = told-holds c.open_out.new.self c.open_out.ensures.holds

pub returns-clause-leaves : goal.returns-clause-leaves
returns-clause-leaves c = opened-leaves c.args.self.now c.open_out.new.self c.args.name.now _ c.open_out.ensures.kept c.open_out.ensures.lost
