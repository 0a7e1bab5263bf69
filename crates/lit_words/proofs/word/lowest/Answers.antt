use Rattle.std.proofs.Common.{arith, w64}
use Rattle.std.proofs.lemmas.Nat.Bits.{bit_at-trailing_zeros}
use Rattle.lit_words.proofs.word.lowest.Goals as goal

pub returns-else-word-eq0-clause-some : goal.returns-else-word-eq0-clause-some
returns-else-word-eq0-clause-some c =
    let h = bit_at-trailing_zeros w64 c.args.word (grind arith) c.ranges.word.fits in
    (h.0, h.1)
