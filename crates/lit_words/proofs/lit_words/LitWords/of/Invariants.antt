use Rattle.std.proofs.Common.{take}
use Rattle.lit_words.specs.Words.{AreWordsOf}
use Rattle.lit_words.proofs.lit_words.LitWords.of.Given as goal

-- the literals so far
abbrev pub invariant-loop-lit : goal.invariant-loop-lit
invariant-loop-lit l = AreWordsOf l.words (take l.lit-index l.lits)
