use Rattle.lit_words.proofs.WordLemmas.{bit_without}
use Rattle.lit_words.proofs.word.without.Goals as goal

pub returns : goal.returns
returns c = λ i. bit_without c.args.word c.args.other i c.ranges.word.fits c.ranges.other.fits
