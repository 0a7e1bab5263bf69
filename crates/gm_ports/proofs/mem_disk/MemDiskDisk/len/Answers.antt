use Rattle.std.proofs.Common.{◌≡◌, ◌++◌, ◌∷◌, [], length, ◌∙◌, ap, arith}
use Rattle.gm_ports.specs.MemDisk.{Nothing, after_look, MemDiskState}
use Rattle.gm_ports.proofs.MemDiskLemmas.{looks_fault, looks_look, text_look}
use Rattle.gm_ports.proofs.mem_disk.MemDiskDisk.len.Goals as goal

pub returns-in_err-begin-clause-looks : goal.returns-in_err-begin-clause-looks
returns-in_err-begin-clause-looks c =
    looks_fault _ _ c.in_err-begin.ensures.err

pub returns-clause-looks : goal.returns-clause-looks
returns-clause-looks c =
    let is : c.look.new.self ≡ after_look c.args.self.now = c.look.ensures ∙ ap (λ (s : MemDiskState). record s { changes = s.changes ++ Nothing ∷ [] }) c.in_ok-begin.ensures.ok in
    looks_look c.args.self.now c.look.new.self is

pub returns-clause-length : goal.returns-clause-length
returns-clause-length c =
    let is : c.look.new.self ≡ after_look c.args.self.now = c.look.ensures ∙ ap (λ (s : MemDiskState). record s { changes = s.changes ++ Nothing ∷ [] }) c.in_ok-begin.ensures.ok in
    omega (arith, ap length (c.bytes.ensures ∙ text_look c.args.self.now c.look.new.self is))
