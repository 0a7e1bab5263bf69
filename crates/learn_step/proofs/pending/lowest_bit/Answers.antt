use Rattle.std.proofs.Common.{w64}
use Rattle.std.proofs.lemmas.Nat.Bits.{bit_at-trailing_zeros}
use Rattle.learn_step.proofs.pending.lowest_bit.Goals as goal

pub returns-clause-within : goal.returns-clause-within
returns-clause-within c = (bit_at-trailing_zeros w64 c.args.word c.requires c.ranges.word.fits).0

pub returns-clause-has : goal.returns-clause-has
returns-clause-has c = (bit_at-trailing_zeros w64 c.args.word c.requires c.ranges.word.fits).1

pub returns-clause-lowest : goal.returns-clause-lowest
returns-clause-lowest c = (bit_at-trailing_zeros w64 c.args.word c.requires c.ranges.word.fits).2
