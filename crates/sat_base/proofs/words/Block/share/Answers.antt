use Rattle.std.proofs.Common.{rules}
use Rattle.sat_base.proofs.words.Block.share.Goals as goal

-- both blocks are alike, and no other answer is looked for
pub returns-in-Ok : goal.returns-in-Ok
returns-in-Ok c = search rules
