use Rattle.std.proofs.Common.{◌≡◌, drop}
use Rattle.evidence_text.specs.Reading.{refutations_at}
use Rattle.evidence_text.specs.Cursors.{left_of, rest_of}
use Rattle.evidence_text.proofs.GroupLemmas.{after_front}
use Rattle.evidence_text.proofs.record.read_refutations.Given as goal

-- those of the groups so far were read
abbrev pub invariant-loop-g : goal.invariant-loop-g
invariant-loop-g l =
    record {
      read : after_front l.proofs.items (refutations_at l.version l.vars (drop l.g-index l.g-items) (left_of l.lines).at (left_of l.lines).lines)
          ≡ refutations_at l.version l.vars l.g-items (left_of l.fn.lines).at (left_of l.fn.lines).lines;
      rest : rest_of l.lines ≡ rest_of l.fn.lines;
    }
