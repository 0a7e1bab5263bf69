use Rattle.gm_io.proofs.WritingLemmas.{both-written}
use Rattle.gm_io.proofs.export_files.write_both.Goals as goal

-- the first goes on standing while the second is written
pub returns-in-Ok-write_file-clause-whole : goal.returns-in-Ok-write_file-clause-whole
returns-in-Ok-write_file-clause-whole g c =
    both-written (g.F.Files.state c.write_file.new.files) (g.F.Files.state c.write_file-2.new.files) c.args.first.now c.args.first_text.now c.args.second.now
    c.args.second_text.now c.requires c.in-Ok.ensures.whole c.write_file-2.ensures.leaves c.write_file-2.ensures.untold c.in-Ok-write_file.ensures.whole
