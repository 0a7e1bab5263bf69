use Rattle.std.proofs.Common.{◌≡◌, ◌++◌, ◌∷◌, [], length, take, drop, ℕ, List, ◌∙◌, ap, arith}
use Rattle.gm_ports.specs.MemDisk.{Nothing, after_look, MemDiskState}
use Rattle.gm_ports.proofs.MemDiskLemmas.{looks_fault, looks_look, text_look}
use Rattle.gm_ports.proofs.mem_disk.MemDiskDisk.read.Goals as goal

pub returns-in_err-begin-clause-looks : goal.returns-in_err-begin-clause-looks
returns-in_err-begin-clause-looks c =
    looks_fault _ _ c.in_err-begin.ensures.err

pub returns-clause-looks : goal.returns-clause-looks
returns-clause-looks c =
    let is : c.look.new.self ≡ after_look c.args.self.now = c.look.ensures ∙ ap (λ (s : MemDiskState). record s { changes = s.changes ++ Nothing ∷ [] }) c.in_ok-begin.ensures.ok in
    looks_look c.args.self.now c.look.new.self is

pub returns-clause-bytes : goal.returns-clause-bytes
returns-clause-bytes c =
    let is : c.look.new.self ≡ after_look c.args.self.now = c.look.ensures ∙ ap (λ (s : MemDiskState). record s { changes = s.changes ++ Nothing ∷ [] }) c.in_ok-begin.ensures.ok in
    c.copy_out.ensures.bytes ∙ ap (λ (l : List ℕ). take c.copy_out.result (drop c.args.at l)) (c.bytes.ensures ∙ text_look c.args.self.now c.look.new.self is)

pub returns-clause-end : goal.returns-clause-end
returns-clause-end c =
    let is : c.look.new.self ≡ after_look c.args.self.now = c.look.ensures ∙ ap (λ (s : MemDiskState). record s { changes = s.changes ++ Nothing ∷ [] }) c.in_ok-begin.ensures.ok in
    λ none. omega (arith, c.copy_out.ensures.size, ap length (c.bytes.ensures ∙ text_look c.args.self.now c.look.new.self is), c.requires)
