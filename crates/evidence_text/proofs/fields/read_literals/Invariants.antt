use Rattle.std.proofs.Common.{◌≡◌, length}
use Rattle.evidence_text.specs.Reading.{items_at, literal_in}
use Rattle.evidence_text.specs.Cursors.{words_left}
use Rattle.evidence_text.proofs.ReadingLemmas.{with_front}
use Rattle.evidence_text.proofs.fields.read_literals.Given as goal

-- the literals so far were read
abbrev pub invariant-loop-lit : goal.invariant-loop-lit
invariant-loop-lit l = with_front l.lits.items (items_at (literal_in l.vars) (words_left l.words)) ≡ items_at (literal_in l.vars) (words_left l.fn.words)

abbrev pub decreases-loop-lit : goal.decreases-loop-lit
decreases-loop-lit l = length l.words.rest.now
