use Rattle.std.proofs.Common.{◌≡◌, ◌+◌, ◌∙◌, ℕ, Bool, sym, subst, arith}
use Rattle.std.specs.Prelude.{slice_index_or}
use Rattle.evidence_rec.specs.Columns.{is_set}
use Rattle.evidence_rec.proofs.ColumnLemmas.{IsColumnTo, column-true, column-false}
use Rattle.evidence_rec.proofs.columns.column_of.Goals.{then-has_bit, else-has_bit}
use Rattle.evidence_rec.proofs.columns.column_of.Goals as goal

-- the bit of the next word is written
pub loop-at-preserved : goal.loop-at-preserved
loop-at-preserved c =
    let at = c.loop-at.at in
    let test : ℕ → Bool = λ k. is_set (slice_index_or c.args.words.now k 0) c.args.bit in
    let value : test at ≡ c.has_bit.result = sym c.has_bit.ensures in
    elim c.if-has_bit.branch [
      | then-has_bit w ↦
          subst (IsColumnTo test (at + 1)) (sym w.column-is)
          (column-true test at c.loop-at.column (omega (arith, c.requires.few)) (value ∙ w.if-has_bit.true) c.loop-at.invariant)
      | else-has_bit w ↦
          subst (IsColumnTo test (at + 1)) (sym w.column-is)
          (column-false test at c.loop-at.column (value ∙ w.if-has_bit.false) c.loop-at.invariant)
    ]
