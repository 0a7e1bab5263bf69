use Rattle.std.proofs.Common.{◌≡◌, ◌+◌, ◌++◌, ◌∷◌, [], length, ◌∙◌, ap}
use Rattle.gm_ports.specs.MemDisk.{Wrote, after_write, MemDiskState}
use Rattle.gm_ports.proofs.MemDiskLemmas.{writes_fault, writes_write, text_write}
use Rattle.gm_ports.proofs.mem_disk.MemDiskDisk.write_at.Goals as goal

pub returns-in_err-begin-clause-writes : goal.returns-in_err-begin-clause-writes
returns-in_err-begin-clause-writes c =
    writes_fault _ _ c.args.at (length c.args.piece.now) c.in_err-begin.ensures.err

pub returns-clause-bytes : goal.returns-clause-bytes
returns-clause-bytes c =
    let is : c.put.new.self ≡ after_write c.args.self.now c.args.at c.args.piece.now = c.put.ensures ∙ ap (λ (s : MemDiskState). record s { changes = s.changes ++ Wrote c.args.at c.args.piece.now ∷ []; taken = s.taken + length c.args.piece.now }) c.in_ok-begin.ensures.ok in
    λ _. text_write c.args.self.now c.put.new.self c.args.at c.args.piece.now is

pub returns-clause-writes : goal.returns-clause-writes
returns-clause-writes c =
    let is : c.put.new.self ≡ after_write c.args.self.now c.args.at c.args.piece.now = c.put.ensures ∙ ap (λ (s : MemDiskState). record s { changes = s.changes ++ Wrote c.args.at c.args.piece.now ∷ []; taken = s.taken + length c.args.piece.now }) c.in_ok-begin.ensures.ok in
    writes_write c.args.self.now c.put.new.self c.args.at c.args.piece.now is
