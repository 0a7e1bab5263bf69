use Rattle.std.proofs.Common.{◌≡◌, ◌++◌, List, sym, subst, arith}
use Rattle.std.proofs.lemmas.Grind.{common_steps}
use Rattle.std.specs.Prelude.{map}
use Rattle.gm_ports.specs.MemFiles.{MemFileState, held_under, room_under, file_with, file_without}
use Rattle.gm_ports.specs.Texts.{text_named, room_named}
use Rattle.gm_ports.proofs.MemFilesLemmas.{held_under-made, room_under-made}
use Rattle.gm_ports.proofs.file_list.FileList.new.Goals as goal

pub returns-clause-held : goal.returns-clause-held
returns-clause-held c =
    let made : c.add_rooms.new.files.items ≡ map (file_with c.args.rooms) c.args.held ++ map file_without c.args.rooms = grind (arith, common_steps) in
    λ name. subst (λ (files : List MemFileState). held_under files name ≡ text_named c.args.held name) (sym made) (held_under-made c.args.held c.args.rooms c.args.rooms name)

pub returns-clause-rooms : goal.returns-clause-rooms
returns-clause-rooms c =
    let made : c.add_rooms.new.files.items ≡ map (file_with c.args.rooms) c.args.held ++ map file_without c.args.rooms = grind (arith, common_steps) in
    λ name. subst (λ (files : List MemFileState). room_under files name ≡ room_named c.args.rooms name) (sym made) (room_under-made c.args.held c.args.rooms name)
