use Rattle.std.proofs.Common.{◌≡◌, length, List, refl, ◌∙◌, ap, arith}
use Rattle.gm_ports.specs.MemDisk.{Nothing, changes_of, MemDiskState}
use Rattle.gm_ports.specs.declared.disk_call.DiskCall.{DiskCall}
use Rattle.gm_ports.specs.declared.disk_call.DiskCall.TheVariants as kept
use Rattle.gm_ports.proofs.MemDiskLemmas.{length-changes_of, changes_of-quiet, quiet_step, with_changes}
use Rattle.gm_ports.proofs.mem_disk.MemDisk.look.Goals as goal

pub push_reserved-requires : goal.push_reserved-requires
push_reserved-requires c =
    omega (arith, length-changes_of c.self.inside.kept.items c.self.inside.pieces.items, ap (λ (s : MemDiskState). length s.changes) c.self.view_is, ap (λ (s : MemDiskState). s.call_room) c.self.view_is, c.self.invariant.call_space)

pub invariant_of-self : goal.invariant_of-self
invariant_of-self c =
    let kept_are : length (changes_of c.self.inside.kept.items c.self.inside.pieces.items) ≡ length c.self.inside.kept.items = length-changes_of c.self.inside.kept.items c.self.inside.pieces.items in
    let changes_are : length (changes_of c.self.inside.kept.items c.self.inside.pieces.items) ≡ length c.args.self.now.changes = ap (λ (s : MemDiskState). length s.changes) c.self.view_is in
    let room_is : c.self.inside.call_room ≡ c.args.self.now.call_room = ap (λ (s : MemDiskState). s.call_room) c.self.view_is in
    quiet_step _ _ _ _ _ _ _ _ _ c.self.invariant kept.Looked Nothing _ _ refl (λ t. refl) refl c.push_reserved.ensures.items (omega arith) (omega arith)

pub returns : goal.returns
returns c = with_changes _ _ Nothing _ c.self.view_is
    (ap (λ (l : List DiskCall). changes_of l c.self.inside.pieces.items) c.push_reserved.ensures.items ∙ changes_of-quiet c.self.inside.kept.items kept.Looked c.self.inside.pieces.items Nothing c.self.invariant.parted refl)
