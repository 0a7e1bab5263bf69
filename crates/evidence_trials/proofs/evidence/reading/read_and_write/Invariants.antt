use Rattle.std.proofs.Common.{◌≡◌, true}
use Rattle.evidence_trials.proofs.evidence.reading.read_and_write.Given as goal

-- the head was answered
abbrev pub invariant-loop : goal.invariant-loop
invariant-loop l = l.reader.begun ≡ true
