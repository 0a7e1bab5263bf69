use Rattle.std.proofs.Common.{length, ap, arith}
use Rattle.disk_frames.specs.Frames.{framed}
use Rattle.disk_frames.proofs.FrameLemmas.{length-piece_of}
use Rattle.disk_frames.proofs.text.FramedText.len.Goals as goal

pub overflow_sub-result : goal.overflow_sub-result
overflow_sub-result c = omega (arith, ap length c.self.invariant, length-piece_of (framed c.self.inside.bytes.items))

pub returns : goal.returns
returns c = omega (arith, ap length c.self.invariant, length-piece_of (framed c.self.inside.bytes.items), ap length c.self.view_is)
