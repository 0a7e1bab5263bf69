use Rattle.std.proofs.Common.{rules}
use Rattle.sat_base.proofs.words.Words.is_small_like.Goals as goal

-- both lists are alike, and no other answer is looked for
pub returns-in-One-One : goal.returns-in-One-One
returns-in-One-One c = search rules
