use Rattle.std.proofs.Common.{◌≡◌, rules, ◌∙◌, ap}
use Rattle.disk_frames.specs.Frames.{length_bytes, piece_of, framed}
use Rattle.disk_frames.proofs.FrameLemmas.{framed-piece_of, piece_of-framed}
use Rattle.disk_frames.proofs.text.FramedText.new.Goals as goal

pub invariant_of-result : goal.invariant_of-result
unfolding length_bytes
invariant_of-result c =
    let is : c.push.new.self.items ≡ piece_of c.args.text.now = search rules in
    piece_of-framed c.push.new.self.items c.args.text.now is

pub returns : goal.returns
unfolding length_bytes
returns c =
    let is : c.push.new.self.items ≡ piece_of c.args.text.now = search rules in
    ap framed is ∙ framed-piece_of c.args.text.now
