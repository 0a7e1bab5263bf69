use Rattle.std.proofs.Common.{◌≡◌, ◌++◌, ◌∷◌, [], Some, ◌∙◌, ap}
use Rattle.gm_ports.specs.MemDisk.{Nothing, after_look, text_after, MemDiskState}
use Rattle.gm_ports.proofs.MemDiskLemmas.{on_err, text_look, unopened_fault}
use Rattle.gm_ports.proofs.mem_disk.MemDiskDisk.open_disk.Goals as goal

-- a disk that could not be opened is as it was
pub returns-in_err-begin-clause-unopened : goal.returns-in_err-begin-clause-unopened
returns-in_err-begin-clause-unopened c = on_err _ (unopened_fault c.args.self.now c.begin.new.self c.in_err-begin.ensures.err)

pub returns-clause-opened : goal.returns-clause-opened
returns-clause-opened c =
    let is : c.look.new.self ≡ after_look c.args.self.now = c.look.ensures ∙ ap (λ (s : MemDiskState). record s { changes = s.changes ++ Nothing ∷ [] }) c.in_ok-begin.ensures.ok in
    ap Some (ap (λ (s : MemDiskState). text_after s.first s.changes) c.self.view_is ∙ text_look c.args.self.now c.look.new.self is)
