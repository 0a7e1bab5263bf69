use Rattle.std.proofs.Common.{◌<◌, length, arith}
use Rattle.std.proofs.lemmas.Grind.{common_steps}
use Rattle.gm_ports.proofs.MemFilesLemmas.{set-longer}
use Rattle.gm_ports.proofs.file_list.FileList.append.Goals as goal

-- the file at the place is the only one that is another one now
pub returns : goal.returns
returns c =
    let there : c.args.place < length c.self.inside.files.items = grind (arith, common_steps) in
    let longer = set-longer c.self.inside.files.items c.args.place c.index_mut.result.now c.args.piece.now there c.index_mut.ensures.value in cc
