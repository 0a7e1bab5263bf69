use Rattle.std.proofs.Common.{sym, arith}
use Rattle.evidence_text.proofs.WordLemmas.{word-ends, word-unended}
use Rattle.evidence_text.proofs.words.word_end.Goals as goal

pub returns-in-Some-clause-end : goal.returns-in-Some-clause-end
returns-in-Some-clause-end c =
    sym (word-ends c.args.bytes.now c.in-Some.end c.in-Some.ensures.0.high c.in-Some.ensures.1 (λ k lt. c.in-Some.ensures.0.before k (omega arith) lt))

pub returns-in-None-clause-end : goal.returns-in-None-clause-end
returns-in-None-clause-end c = sym (word-unended c.args.bytes.now (λ k lt. c.in-None.ensures k (omega arith) lt))
