use Rattle.std.proofs.Common.{◌≡◌, ◌-◌, ◌^◌, ◌≤◌, IfSome, vec_len, length}
use Rattle.gm_ports.specs.DiskState.{Looks}
use Rattle.disk_frames.specs.Reading.{AreFirst}
use Rattle.disk_frames.proofs.WalkLemmas.{Walked}
use Rattle.disk_frames.proofs.salvaging.salvage.Given as goal

-- the frames that were read lead to this gate, and the judge kept what is kept of their texts
abbrev pub invariant-frames : goal.invariant-frames
invariant-frames g l = record {
  walked : Walked (g.J.Judge.fits (g.J.Judge.rule l.fn.judge)) (g.J.Judge.kept l.fn.judge) (g.J.Judge.kept l.judge) (g.D.Disk.state l.fn.disk).reads l.at;
  first : AreFirst (g.D.Disk.state l.fn.disk).reads l.bytes.items;
  inside : l.at ≤ length l.bytes.items;
  size : IfSome (g.D.Disk.state l.fn.disk).reads (λ text. l.disk_len ≡ length text);
  looks : Looks (g.D.Disk.state l.fn.disk) (g.D.Disk.state l.disk);
  quiet : (g.D.Disk.state l.disk).faults ≡ (g.D.Disk.state l.fn.disk).faults;
  rule : g.J.Judge.rule l.judge ≡ g.J.Judge.rule l.fn.judge;
  piece : vec_len l.piece ≡ 65536;
}

abbrev pub decreases-frames : goal.decreases-frames
decreases-frames g l = 2 ^ 64 - l.at
