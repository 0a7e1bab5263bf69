use Rattle.std.proofs.Common.{◌∙◌, ◌||◌, List, Bool, ap, ap₂, sym, arith, take}
use Rattle.std.proofs.lemmas.List.Folds.{list_any_more}
use Rattle.sat_base.specs.Literals.{literal_true, clause_true}
use Rattle.evidence_rec.specs.Columns.{assignment}
use Rattle.evidence_rec.proofs.ColumnLemmas.{is_set-or}
use Rattle.evidence_rec.proofs.columns.clause_column.Goals as goal

-- one literal more, one column more
pub loop-lit-preserved : goal.loop-lit-preserved
loop-lit-preserved c = λ k within.
    let w : List Bool = assignment c.args.columns.now k in
    let front : Bool = clause_true w (take c.loop-lit.lit-index c.args.lits.now) in
    is_set-or c.loop-lit.column c.literal_column-column.result k
    ∙ ap₂ (λ a b. a || b) (c.loop-lit.invariant k within) (c.literal_column-column.ensures k within ∙ ap (literal_true w) c.lit-item.is)
    ∙ sym (list_any_more (literal_true w) c.args.lits.now c.loop-lit.lit-index c.lit-item.result (omega arith))
