use Rattle.token_text.proofs.PassLemmas.{passed-byte, passed-newline, passed-token}
use Rattle.token_text.proofs.cursor.pass_space.Goals as goal
use Rattle.token_text.proofs.cursor.pass_space.Goals.{then-byte-eq10, else-byte-eq10+in-Some}

-- one byte further what was left where the loop began is still left
pub loop-at-preserved : goal.loop-at-preserved
loop-at-preserved c =
    elim c.if-byte-eq10.branch [
      | then-byte-eq10 w ↦
          rw (w.before-is, w.line-is, w.line_start-is)
          (passed-newline _ _ _ _ _ _ _ c.loop-at.invariant c.loop-at-test.true w.if-byte-eq10.true)
      | else-byte-eq10+in-Some w ↦
          rw (w.before-is, w.line-is, w.line_start-is)
          (passed-byte _ _ _ _ _ _ _ _ c.loop-at.invariant c.loop-at-test.true w.in-Some.ensures.passes)
    ]

-- a token begins here, so what stands before it does not matter any more
pub returns-in_default-clause-left : goal.returns-in_default-clause-left
returns-in_default-clause-left c =
    passed-token _ _ _ _ _ _ _ c.loop-at.invariant c.loop-at-test.true c.in_default.ensures.begins
