use Rattle.std.proofs.Common.{refl}
use Rattle.evidence_text.proofs.WordLemmas.{letter_of-first, letter_of-none, behind-first}
use Rattle.evidence_text.proofs.words.first_word.Goals as goal

pub returns-then-word-eq1-clause-letter : goal.returns-then-word-eq1-clause-letter
returns-then-word-eq1-clause-letter c = letter_of-first c.args.line.now c.word_and_rest.result.0.now _ c.word_and_rest.ensures.word c.if-word-eq1.true refl

pub returns-else-word-eq1-clause-letter : goal.returns-else-word-eq1-clause-letter
returns-else-word-eq1-clause-letter c = letter_of-none c.args.line.now c.word_and_rest.result.0.now c.word_and_rest.ensures.word c.if-word-eq1.false

pub returns-then-word-eq1-clause-behind : goal.returns-then-word-eq1-clause-behind
returns-then-word-eq1-clause-behind c = behind-first c.args.line.now _ c.word_and_rest.ensures.rest

pub returns-else-word-eq1-clause-behind : goal.returns-else-word-eq1-clause-behind
returns-else-word-eq1-clause-behind c = behind-first c.args.line.now _ c.word_and_rest.ensures.rest
