use Rattle.std.proofs.Common.{arith, sym, subst, List, ℕ}
use Rattle.evidence_text.specs.Reading.{number_in}
use Rattle.evidence_text.specs.Cursors.{words_behind, ReadsItem, ReadsAscending}
use Rattle.evidence_text.proofs.ItemLemmas.{ascending-read, items-read}
use Rattle.evidence_text.proofs.words.Words.above.Goals as goal

pub returns-clause-ascending : goal.returns-clause-ascending
returns-clause-ascending c =
    let P : List ℕ → Type 0 = λ t. ReadsAscending c.item_above.result c.args.last c.args.high (words_behind c.args.self.now.rest.now) (words_behind t) in
    subst P (sym c.behind-self.ensures)
    (ascending-read c.args.self.now.rest.now c.args.last c.args.high _ _ _ (omega (arith, c.if-is_empty.false)) (omega arith) c.scan-end.ensures.end
    c.scan-end.ensures.number c.item_above.ensures.item)

pub returns-clause-item : goal.returns-clause-item
returns-clause-item c = λ first.
    let P : List ℕ → Type 0 = λ t. ReadsItem (λ n. n) c.item_above.result (number_in 1 c.args.high) (words_behind c.args.self.now.rest.now) (words_behind t) in
    subst P (sym c.behind-self.ensures)
    (items-read c.args.self.now.rest.now c.args.last c.args.high _ _ _ (omega (arith, c.if-is_empty.false)) (omega arith) c.scan-end.ensures.end
    c.scan-end.ensures.number c.item_above.ensures.item first)
