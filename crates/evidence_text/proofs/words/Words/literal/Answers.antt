use Rattle.std.proofs.Common.{arith, sym, ◌∙◌, subst, List, ℕ}
use Rattle.std.proofs.lemmas.Bool.{eqb-true, eqb-false}
use Rattle.evidence_text.specs.Reading.{literal_in}
use Rattle.evidence_text.specs.Cursors.{words_behind, ReadsItem}
use Rattle.evidence_text.proofs.ItemLemmas.{negated-read, plain-read}
use Rattle.evidence_text.proofs.words.Words.literal.Goals as goal

pub returns-then-is_minus-clause-item : goal.returns-then-is_minus-clause-item
returns-then-is_minus-clause-item c =
    let P : List ℕ → Type 0 = λ t. ReadsItem (λ l. l) c.literal_item.result (literal_in c.args.vars) (words_behind c.args.self.now.rest.now) (words_behind t) in
    subst P (sym c.behind-self.ensures)
    (negated-read c.args.self.now.rest.now c.args.vars _ _ _ (omega (arith, c.requires)) (c.is_minus.ensures.long c.if-is_minus.true)
    (eqb-true _ _ (sym c.is_minus.ensures.minus ∙ c.if-is_minus.true)) c.scan-end.ensures.end c.scan-end.ensures.number c.literal_item.ensures)

pub returns-else-is_minus-clause-item : goal.returns-else-is_minus-clause-item
returns-else-is_minus-clause-item c =
    let P : List ℕ → Type 0 = λ t. ReadsItem (λ l. l) c.literal_item-else-is_minus.result (literal_in c.args.vars) (words_behind c.args.self.now.rest.now) (words_behind t) in
    subst P (sym c.behind-self-else-is_minus.ensures)
    (plain-read c.args.self.now.rest.now c.args.vars _ _ _ (omega (arith, c.requires)) (omega (arith, c.if-is_empty.false))
    (eqb-false _ _ (sym c.is_minus.ensures.minus ∙ c.if-is_minus.false)) c.scan-end-else-is_minus.ensures.end c.scan-end-else-is_minus.ensures.number c.literal_item-else-is_minus.ensures)
