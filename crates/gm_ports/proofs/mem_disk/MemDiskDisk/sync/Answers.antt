use Rattle.std.proofs.Common.{◌≡◌, ◌++◌, ◌∷◌, [], ◌∙◌, ap}
use Rattle.gm_ports.specs.MemDisk.{Synced, after_sync, MemDiskState}
use Rattle.gm_ports.proofs.MemDiskLemmas.{looks_fault, syncs}
use Rattle.gm_ports.proofs.mem_disk.MemDiskDisk.sync.Goals as goal

pub returns-in_err-begin-clause-looks : goal.returns-in_err-begin-clause-looks
returns-in_err-begin-clause-looks c =
    looks_fault _ _ c.in_err-begin.ensures.err

pub returns-clause-looks : goal.returns-clause-looks
returns-clause-looks c =
    let is : c.settle.new.self ≡ after_sync c.args.self.now = c.settle.ensures ∙ ap (λ (s : MemDiskState). record s { changes = s.changes ++ Synced ∷ [] }) c.in_ok-begin.ensures.ok in
    (syncs c.args.self.now c.settle.new.self is).0

pub returns-clause-settled : goal.returns-clause-settled
returns-clause-settled c =
    let is : c.settle.new.self ≡ after_sync c.args.self.now = c.settle.ensures ∙ ap (λ (s : MemDiskState). record s { changes = s.changes ++ Synced ∷ [] }) c.in_ok-begin.ensures.ok in
    (syncs c.args.self.now c.settle.new.self is).1
