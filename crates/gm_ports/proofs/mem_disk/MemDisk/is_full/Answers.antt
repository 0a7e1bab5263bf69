use Rattle.std.proofs.Common.{◌≡◌, length, ap, arith}
use Rattle.std.proofs.lemmas.Bool.Decides.{nat_tests}
use Rattle.gm_ports.specs.MemDisk.{changes_of, MemDiskState}
use Rattle.gm_ports.proofs.MemDiskLemmas.{length-changes_of}
use Rattle.gm_ports.proofs.mem_disk.MemDisk.is_full.Goals as goal

pub returns : goal.returns
returns c =
    let kept_are : length (changes_of c.self.inside.kept.items c.self.inside.pieces.items) ≡ length c.self.inside.kept.items = length-changes_of c.self.inside.kept.items c.self.inside.pieces.items in
    let changes_are : length (changes_of c.self.inside.kept.items c.self.inside.pieces.items) ≡ length c.args.self.now.changes = ap (λ (s : MemDiskState). length s.changes) c.self.view_is in
    let room_is : c.self.inside.call_room ≡ c.args.self.now.call_room = ap (λ (s : MemDiskState). s.call_room) c.self.view_is in
    (λ h. grind (arith, nat_tests), λ h. grind (arith, nat_tests))
