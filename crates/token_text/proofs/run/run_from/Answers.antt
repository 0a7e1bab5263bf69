use Rattle.std.proofs.Common.{sym, ◌∙◌}
use Rattle.token_text.proofs.RunLemmas.{read-digit, read-plain}
use Rattle.token_text.proofs.run.run_from.Goals as goal
use Rattle.token_text.proofs.run.run_from.Goals.{then-is_ascii_digit, else-is_ascii_digit+then-is_plain}

-- what was read and what is left still make the whole, one byte further
pub loop-at-preserved : goal.loop-at-preserved
loop-at-preserved c =
    elim c.if-is_ascii_digit.branch [
      | then-is_ascii_digit w ↦
          rw (w.digits-is, w.value-is)
          (read-digit _ _ _ _ _ _ _ c.loop-at.invariant c.loop-at-test.true
          (sym c.is_ascii_digit.ensures.value ∙ w.if-is_ascii_digit.true) w.with_digit-value.ensures)
      | else-is_ascii_digit+then-is_plain w ↦
          rw (w.digits-is, w.value-is)
          (read-plain _ _ _ _ _ _ c.loop-at.invariant c.loop-at-test.true
          (sym w.is_plain.ensures ∙ w.if-is_plain.true) (sym c.is_ascii_digit.ensures.value ∙ w.if-is_ascii_digit.false))
    ]
