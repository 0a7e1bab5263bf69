use Rattle.std.proofs.Common.{◌≡◌, ◌+◌, length}
use Rattle.std.specs.List.{fold}
use Rattle.evidence_text.specs.Scan.{digit_onto, word_from}
use Rattle.evidence_text.proofs.scan.rest_of_word.Given as goal

-- what was read and what is left of the word make the whole
abbrev pub invariant-loop-at : goal.invariant-loop-at
invariant-loop-at l =
    record {
      place : l.at + length (word_from l.line l.at) ≡ l.from + length (word_from l.line l.from);
      value : fold digit_onto l.value (word_from l.line l.at) ≡ fold digit_onto l.fn.before (word_from l.line l.from);
    }
