use Rattle.lit_words.proofs.WordLemmas.{bit_both}
use Rattle.lit_words.proofs.word.both.Goals as goal

pub returns : goal.returns
returns c = bit_both c.args.word c.args.other
