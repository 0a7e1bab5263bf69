use Rattle.lit_words.proofs.WordLemmas.{bit_cleared}
use Rattle.lit_words.proofs.word.without_bit.Goals as goal

pub returns : goal.returns
returns c = λ i. bit_cleared c.args.word c.args.bit i c.ranges.word.fits c.requires
