use Rattle.std.proofs.Common.{◌≡◌, length, ◌∙◌, ap, arith, length-append}
use Rattle.gm_ports.specs.MemDisk.{text_after, changes_of, MemDiskState}
use Rattle.gm_ports.proofs.MemDiskLemmas.{length-changes_of, changes_of-wrote, write_step, with_piece}
use Rattle.gm_ports.proofs.mem_disk.MemDisk.put.Goals as goal

pub push_reserved-requires : goal.push_reserved-requires
push_reserved-requires c =
    let kept_are : length (changes_of c.self.inside.kept.items c.self.inside.pieces.items) ≡ length c.self.inside.kept.items = length-changes_of c.self.inside.kept.items c.self.inside.pieces.items in
    let changes_are : length (changes_of c.self.inside.kept.items c.self.inside.pieces.items) ≡ length c.args.self.now.changes = ap (λ (s : MemDiskState). length s.changes) c.self.view_is in
    let room_is : c.self.inside.call_room ≡ c.args.self.now.call_room = ap (λ (s : MemDiskState). s.call_room) c.self.view_is in
    omega (arith, c.self.invariant.call_space)

pub invariant_of-self : goal.invariant_of-self
invariant_of-self c =
    let kept_are : length (changes_of c.self.inside.kept.items c.self.inside.pieces.items) ≡ length c.self.inside.kept.items = length-changes_of c.self.inside.kept.items c.self.inside.pieces.items in
    let changes_are : length (changes_of c.self.inside.kept.items c.self.inside.pieces.items) ≡ length c.args.self.now.changes = ap (λ (s : MemDiskState). length s.changes) c.self.view_is in
    let room_is : c.self.inside.call_room ≡ c.args.self.now.call_room = ap (λ (s : MemDiskState). s.call_room) c.self.view_is in
    write_step _ _ _ _ _ _ _ _ _ c.self.invariant c.args.at c.args.piece.now _ _ _ _ _ _ c.overwrite.ensures.items c.append_reserved.ensures.items c.push_reserved.ensures.items (omega arith)
    (omega (arith, ap length c.self.invariant.reads, ap (λ (s : MemDiskState). length (text_after s.first s.changes)) c.self.view_is, c.requires.place.inside))
    (omega (arith, ap (λ (s : MemDiskState). s.taken) c.self.view_is, ap (λ (s : MemDiskState). s.byte_room) c.self.view_is, c.requires.place.room))
    (omega arith) c.overwrite.ensures.space c.append_reserved.ensures.space

pub returns : goal.returns
returns c = with_piece _ _ c.args.at c.args.piece.now _ _ c.self.view_is
    ((λ i. changes_of (c.push_reserved.ensures.items i) (c.append_reserved.ensures.items i)) ∙ changes_of-wrote c.self.inside.first.items c.self.inside.bytes.items c.self.inside.pieces.items c.self.inside.kept.items c.self.inside.call_room c.self.inside.byte_room _ _ _ c.self.invariant c.args.at c.args.piece.now)
    (ap length c.append_reserved.ensures.items ∙ length-append c.self.inside.pieces.items c.args.piece.now)
