use Rattle.std.proofs.Common.{◌≡◌, ◌-◌, ◌≤◌, length}
use Rattle.gm_ports.specs.DiskState.{Looks}
use Rattle.disk_frames.specs.Reading.{AreFirst}
use Rattle.disk_frames.proofs.reading.read_up_to.Given as goal

-- what stands in `bytes` are the first ones of the disk, which was only looked at
abbrev pub invariant-turns : goal.invariant-turns
invariant-turns g l = record {
  first : AreFirst (g.D.Disk.state l.fn.disk).reads l.bytes.items;
  grown : length l.fn.bytes.items ≤ length l.bytes.items;
  looks : Looks (g.D.Disk.state l.fn.disk) (g.D.Disk.state l.disk);
  quiet : (g.D.Disk.state l.disk).faults ≡ (g.D.Disk.state l.fn.disk).faults;
  piece : length l.piece ≡ length l.fn.piece;
}

abbrev pub decreases-turns : goal.decreases-turns
decreases-turns g l = l.wanted - length l.bytes.items
