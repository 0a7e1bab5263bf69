use Rattle.std.proofs.Common.{◌∙◌, ap, sym, drop, arith, Option, Ok, Err, ℕ, List}
use Rattle.std.specs.Option.{option_map_or}
use Rattle.lrat_check.specs.declared.why.Why.TheVariants.{BadNumber}
use Rattle.evidence_text.specs.Cursors.{words_behind}
use Rattle.evidence_text.proofs.ItemLemmas.{number-read}
use Rattle.evidence_text.proofs.words.Words.number.Goals as goal

pub returns-in-None-clause-read : goal.returns-in-None-clause-read
returns-in-None-clause-read c =
    number-read c.args.self.now.rest.now c.args.low c.args.high _ _ _ (omega (arith, c.if-is_empty.false)) (omega arith) c.scan-end.ensures.end c.scan-end.ensures.number c.narrowed.ensures.value
    ∙ ap (λ (o : Option ℕ). option_map_or (λ n. Ok (n, words_behind (drop c.scan-end.result.end c.args.self.now.rest.now))) o (Err BadNumber)) c.in-None.is

pub returns-in-Some-clause-read : goal.returns-in-Some-clause-read
returns-in-Some-clause-read c =
    number-read c.args.self.now.rest.now c.args.low c.args.high _ _ _ (omega (arith, c.if-is_empty.false)) (omega arith) c.scan-end.ensures.end c.scan-end.ensures.number c.narrowed.ensures.value
    ∙ ap (λ (o : Option ℕ). option_map_or (λ n. Ok (n, words_behind (drop c.scan-end.result.end c.args.self.now.rest.now))) o (Err BadNumber)) c.in-Some.is
    ∙ ap (λ (t : List ℕ). Ok (c.in-Some.n, words_behind t)) (sym c.behind-self.ensures)
