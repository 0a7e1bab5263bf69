use Rattle.std.proofs.Common.{drop}
use Rattle.evidence_rec.specs.Shorten.{shortened_refutations}
use Rattle.evidence_text.specs.Text.{text_of, refutations_lines}
use Rattle.evidence_text.proofs.PuttingLemmas.{IsPutUpTo}
use Rattle.evidence_text.proofs.putting.put_refutations.Given as goal

-- those so far were put
abbrev pub invariant-loop-at : goal.invariant-loop-at
invariant-loop-at g l =
    IsPutUpTo (g.S.LineSink.took l.fn.sink l.sink) l.fn.waiting.items l.waiting.items
    (text_of (refutations_lines l.set (shortened_refutations l.earlier l.set l.set l.proofs)))
    (text_of (refutations_lines (drop l.at l.set) (shortened_refutations l.earlier l.set (drop l.at l.set) (drop l.at l.proofs))))
