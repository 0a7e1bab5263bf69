use Rattle.std.proofs.Common.{◌≡◌, None, arith}
use Rattle.std.proofs.lemmas.Grind.{common_steps}
use Rattle.gm_ports.specs.MemFiles.{held_under}
use Rattle.gm_ports.proofs.MemFilesLemmas.{text_at-held}
use Rattle.gm_ports.proofs.mem_files.MemFiles.held.Goals as goal

pub returns-in-Some : goal.returns-in-Some
returns-in-Some c =
    let held : ¬ (held_under c.self.inside.files c.args.name.now ≡ None) = λ none. (let no = c.in-Some.ensures.none.1 none in cc) in
    let told = text_at-held c.self.inside.files c.args.name.now c.in-Some.place c.in-Some.ensures.found.0 held in
    grind (arith, common_steps, told)
