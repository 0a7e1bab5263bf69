use Rattle.std.proofs.lemmas.Nat.{be_bytes_8}
use Rattle.disk_frames.specs.Frames.{length_bytes}
use Rattle.disk_frames.proofs.finding.length_of.Goals as goal

pub returns : goal.returns
unfolding length_bytes
returns c = be_bytes_8 c.args.bytes _ c.requires.eight c.requires.bytes c.from_be_bytes.ensures
