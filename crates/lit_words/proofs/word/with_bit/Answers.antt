use Rattle.lit_words.proofs.WordLemmas.{bit_set}
use Rattle.lit_words.proofs.word.with_bit.Goals as goal

pub returns : goal.returns
returns c = λ i. bit_set c.args.word c.args.bit i c.requires
