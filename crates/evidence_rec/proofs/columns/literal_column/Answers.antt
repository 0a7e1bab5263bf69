use Rattle.std.proofs.Common.{◌∙◌, arith}
use Rattle.evidence_rec.proofs.ColumnLemmas.{column-positive, column-negated}
use Rattle.evidence_rec.proofs.columns.literal_column.Goals as goal

pub returns-then-is_positive : goal.returns-then-is_positive
returns-then-is_positive c = λ k within.
    column-positive c.args.columns.now k c.var.result c.args.lit c.var.ensures.same c.var.ensures.not_zero (omega (arith, c.requires, c.var.ensures.same)) (c.is_positive.ensures.0 c.if-is_positive.true)

pub returns-else-is_positive : goal.returns-else-is_positive
returns-else-is_positive c = λ k within.
    c.negated.ensures k within
    ∙ column-negated c.args.columns.now k c.var.result c.args.lit c.var.ensures.same c.var.ensures.not_zero (omega (arith, c.requires, c.var.ensures.same))
    (λ same. let yes = c.is_positive.ensures.1 same in let no = c.if-is_positive.false in cc)
