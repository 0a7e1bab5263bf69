use Rattle.std.proofs.Common.{◌≡◌, ◌≤◌, length, All}
use Rattle.sat_base.specs.Derivation.{max_id}
use Rattle.evidence_text.specs.Reading.{items_at, number_in}
use Rattle.evidence_text.specs.Cursors.{words_left}
use Rattle.evidence_text.proofs.ReadingLemmas.{with_front}
use Rattle.evidence_text.proofs.fields.read_hints.Given as goal

-- the hints so far were read
abbrev pub invariant-loop-hint : goal.invariant-loop-hint
invariant-loop-hint l =
    record {
      read : with_front l.hints.items (items_at (number_in 1 max_id) (words_left l.words)) ≡ items_at (number_in 1 max_id) (words_left l.fn.words);
      in_range : All (λ h. h ≤ max_id) l.hints.items;
    }

abbrev pub decreases-loop-hint : goal.decreases-loop-hint
decreases-loop-hint l = length l.words.rest.now
