use Rattle.std.proofs.Common.{length}
use Rattle.gm_audit.specs.Inside.{IsAuditing}
use Rattle.gm_audit.proofs.ReadingLemmas.{IsReading}
use Rattle.gm_audit.proofs.auditing.audit_text.Given as goal

-- the records so far were read, and each passed
abbrev pub invariant-pieces : goal.invariant-pieces
invariant-pieces l =
    record {
      auditing : IsAuditing l.problem l.auditor;
      reading : IsReading l.problem l.bytes l.reader l.auditor.records;
    }

abbrev pub decreases-pieces : goal.decreases-pieces
decreases-pieces l = length l.reader.left.lines
