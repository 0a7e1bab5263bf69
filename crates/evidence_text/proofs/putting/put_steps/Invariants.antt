use Rattle.std.proofs.Common.{map, drop}
use Rattle.evidence_text.specs.Text.{text_of, step_line}
use Rattle.evidence_text.proofs.PuttingLemmas.{IsPutUpTo}
use Rattle.evidence_text.proofs.putting.put_steps.Given as goal

-- those so far were put
abbrev pub invariant-loop-at : goal.invariant-loop-at
invariant-loop-at g l =
    IsPutUpTo (g.S.LineSink.took l.fn.sink l.sink) l.fn.waiting.items l.waiting.items
    (text_of (map step_line l.proof.steps)) (text_of (map step_line (drop l.at l.proof.steps)))
