use Rattle.std.proofs.Common.{◌≡◌, length}
use Rattle.evidence_text.specs.Reading.{ascending_at}
use Rattle.evidence_text.specs.Cursors.{words_left}
use Rattle.evidence_text.proofs.ReadingLemmas.{with_front}
use Rattle.evidence_text.proofs.SetLemmas.{EndsBy}
use Rattle.evidence_text.proofs.fields.read_groups.Given as goal

-- the groups so far were read, the last one last
abbrev pub invariant-loop-set : goal.invariant-loop-set
invariant-loop-set l =
    record {
      read : with_front l.set (ascending_at l.last l.groups (words_left l.words)) ≡ ascending_at 0 l.groups (words_left l.fn.words);
      ends : EndsBy l.last 0 l.set;
    }

abbrev pub decreases-loop-set : goal.decreases-loop-set
decreases-loop-set l = length l.words.rest.now
