use Rattle.gm_ports.proofs.MemDiskLemmas.{fault_step, with_fault_counted}
use Rattle.gm_ports.proofs.mem_disk.MemDisk.begin.Goals as goal

-- the call that failed is kept, where there is room, as one that changed nothing
pub invariant_of-self-in-Err : goal.invariant_of-self-in-Err
invariant_of-self-in-Err c = (fault_step _ _ _ _ _ _ _ _ _ c.self.invariant _ _ c.keep.ensures.items c.keep.ensures.space).0

pub returns-in-Err-clause-err : goal.returns-in-Err-clause-err
returns-in-Err-clause-err c = with_fault_counted _ _ _ _ c.self.view_is
    (fault_step c.self.inside.first.items c.self.inside.bytes.items c.self.inside.pieces.items c.self.inside.kept.items c.self.inside.call_room c.self.inside.byte_room _ _ _ c.self.invariant _ _ c.keep.ensures.items c.keep.ensures.space).1
    c.in-Err.ensures.err
