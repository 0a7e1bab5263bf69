use Rattle.std.proofs.Common.{rules}
use Rattle.lit_words.proofs.lit_words.LitWords.not_false.Goals as goal

-- a literal is false where the other word of the true ones has its bit, and no other answer is looked for
pub returns : goal.returns
returns c = search rules
