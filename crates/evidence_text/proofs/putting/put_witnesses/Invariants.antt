use Rattle.std.proofs.Common.{drop}
use Rattle.evidence_text.specs.Text.{text_of, witnesses_lines}
use Rattle.evidence_text.proofs.PuttingLemmas.{IsPutUpTo}
use Rattle.evidence_text.proofs.putting.put_witnesses.Given as goal

-- those so far were put
abbrev pub invariant-loop-at : goal.invariant-loop-at
invariant-loop-at g l =
    IsPutUpTo (g.S.LineSink.took l.fn.sink l.sink) l.fn.waiting.items l.waiting.items
    (text_of (witnesses_lines l.groups l.witnesses)) (text_of (witnesses_lines (drop l.at l.groups) (drop l.at l.witnesses)))
