use Rattle.std.proofs.Common.{length, ap, arith}
use Rattle.disk_frames.specs.Frames.{framed}
use Rattle.disk_frames.proofs.FrameLemmas.{length-piece_of}
use Rattle.disk_frames.proofs.text.FramedText.text.Goals as goal

pub text_of-requires : goal.text_of-requires
text_of-requires c = omega (arith, ap length c.self.invariant, length-piece_of (framed c.self.inside.bytes.items))
