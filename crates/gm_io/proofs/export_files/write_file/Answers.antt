use Rattle.gm_io.proofs.WritingLemmas.{front-of_nothing}
use Rattle.gm_io.proofs.export_files.write_file.Goals as goal

-- nothing was opened
pub returns-in_default-clause-front : goal.returns-in_default-clause-front
returns-in_default-clause-front g c = front-of_nothing c.args.text.now (g.F.Files.state c.open_out.new.self).written c.in_default.ensures.written
