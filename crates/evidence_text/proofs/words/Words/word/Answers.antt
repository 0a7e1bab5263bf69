use Rattle.std.proofs.Common.{◌∙◌, ap, sym, cond, Ok, Err}
use Rattle.lrat_check.specs.declared.why.Why.TheVariants.{BadLine}
use Rattle.evidence_text.specs.Cursors.{words_behind}
use Rattle.evidence_text.proofs.WordLemmas.{word-read, some_byte}
use Rattle.evidence_text.proofs.words.Words.word.Goals as goal

pub returns-then-eq : goal.returns-then-eq
returns-then-eq c =
    word-read c.args.self.now.rest.now _ _ _ c.args.due.now (some_byte _ _ c.is_empty.ensures c.if-is_empty.false) c.behind.ensures c.word_and_rest.ensures.word c.word_and_rest.ensures.rest
    ∙ ap (λ t. cond t (Ok (words_behind c.word_and_rest.result.1.now)) (Err BadLine)) (sym c.eq.ensures ∙ c.if-eq.true)

pub returns-else-eq : goal.returns-else-eq
returns-else-eq c =
    word-read c.args.self.now.rest.now _ _ _ c.args.due.now (some_byte _ _ c.is_empty.ensures c.if-is_empty.false) c.behind.ensures c.word_and_rest.ensures.word c.word_and_rest.ensures.rest
    ∙ ap (λ t. cond t (Ok (words_behind c.word_and_rest.result.1.now)) (Err BadLine)) (sym c.eq.ensures ∙ c.if-eq.false)
