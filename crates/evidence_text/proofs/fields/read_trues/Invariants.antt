use Rattle.std.proofs.Common.{◌≡◌, length}
use Rattle.evidence_text.specs.Reading.{ascending_at}
use Rattle.evidence_text.specs.Cursors.{words_left, with_read}
use Rattle.evidence_text.proofs.fields.read_trues.Given as goal

-- the variables so far were read and made true
abbrev pub invariant-loop-var : goal.invariant-loop-var
invariant-loop-var l =
    record {
      read : with_read l.values (ascending_at l.last l.vars (words_left l.words)) ≡ with_read l.fn.values (ascending_at 0 l.vars (words_left l.fn.words));
      long : length l.values ≡ l.vars;
    }

abbrev pub decreases-loop-var : goal.decreases-loop-var
decreases-loop-var l = length l.words.rest.now
