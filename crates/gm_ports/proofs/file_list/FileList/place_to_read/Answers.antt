use Rattle.std.proofs.Common.{◌≡◌, List, Some, None, get_or, sym, subst, arith}
use Rattle.std.proofs.lemmas.Grind.{common_steps}
use Rattle.std.specs.Str.{bytes_eq}
use Rattle.gm_ports.specs.MemFiles.{MemFileState, file_named}
use Rattle.gm_ports.proofs.MemFilesLemmas.{position-none, file_named-place}
use Rattle.gm_ports.proofs.file_list.FileList.place_to_read.Goals as goal

-- a name without a place is no file's name
pub returns-in_err-place-clause-none : goal.returns-in_err-place-clause-none
returns-in_err-place-clause-none c =
    let nowhere : file_named c.args.self.now c.args.name.now ≡ None = position-none (λ (f : MemFileState). bytes_eq f.name c.args.name.now) c.args.self.now (sym c.in_err-place.ensures) in
    grind (arith, common_steps, nowhere)

-- the file at the name's place is the one that was tested
pub returns-then-is_there-clause-none : goal.returns-then-is_there-clause-none
returns-then-is_there-clause-none c =
    let found : file_named c.args.self.now c.args.name.now ≡ Some c.index.result.now = file_named-place c.args.self.now c.args.name.now c.in_ok-place.place c.index.result.now (sym c.in_ok-place.ensures)
    (subst (λ (files : List MemFileState). c.index.result.now ≡ get_or files c.in_ok-place.place c.index.result.now) c.self.view_is c.index.ensures) in
    grind (arith, common_steps, found)

pub returns-else-is_there-clause-none : goal.returns-else-is_there-clause-none
returns-else-is_there-clause-none c =
    let found : file_named c.args.self.now c.args.name.now ≡ Some c.index.result.now = file_named-place c.args.self.now c.args.name.now c.in_ok-place.place c.index.result.now (sym c.in_ok-place.ensures)
    (subst (λ (files : List MemFileState). c.index.result.now ≡ get_or files c.in_ok-place.place c.index.result.now) c.self.view_is c.index.ensures) in
    grind (arith, common_steps, found)
