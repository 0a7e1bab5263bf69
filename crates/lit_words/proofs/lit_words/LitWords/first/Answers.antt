use Rattle.std.proofs.Common.{rules}
use Rattle.lit_words.proofs.lit_words.LitWords.first.Goals as goal

-- the literal is that of the bit, and no other answer is looked for
pub returns-in-Some-clause-some : goal.returns-in-Some-clause-some
returns-in-Some-clause-some c = search rules

pub returns-in_err-bit-clause-none : goal.returns-in_err-bit-clause-none
returns-in_err-bit-clause-none c = search rules
