use Rattle.std.proofs.Common.{◌≡◌, ◌+◌, ◌-◌, ◌^◌, ◌<◌, length}
use Rattle.std.specs.List.{fold}
use Rattle.std.specs.Prelude.{Some}
use Rattle.evidence_text.specs.Scan.{digit_onto, word_from}
use Rattle.evidence_text.proofs.scan.short_run.Given as goal

-- what was read and what is left of the word make the whole, and the value has no more digits than were read
abbrev pub invariant-loop-at : goal.invariant-loop-at
invariant-loop-at l =
    record {
      place : l.at + length (word_from l.line l.at) ≡ l.from + length (word_from l.line l.from);
      value : fold digit_onto (Some l.value) (word_from l.line l.at) ≡ fold digit_onto (Some 0) (word_from l.line l.from);
      small : l.value < 10 ^ (l.at - l.from);
    }
