use Rattle.std.proofs.Common.{ap, ◌∙◌, ◌++◌, drop, List, ℕ}
use Rattle.disk_frames.specs.Frames.{length_bytes}
use Rattle.disk_frames.proofs.text.put_length.Goals as goal

pub returns : goal.returns
unfolding length_bytes
returns c = ap (λ (l : List ℕ). l ++ drop 8 c.args.bytes.now) (c.copy_from_slice.ensures.after ∙ c.to_be_bytes.ensures)
