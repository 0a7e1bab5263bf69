-- The proof of a record.
use Rattle.std.specs.Prelude.{[]}
use Rattle.sat_base.specs.Derivation.{Derivation}
use Rattle.evidence_rec.specs.declared.record.Record.{Record}
use Rattle.evidence_rec.specs.declared.record.Record.TheVariants as record_of

-- the refutation of a conflict's set; a correction has none
abbrev pub proof_of : Record → Derivation
proof_of (record_of.Conflict set proof witnesses) = proof
proof_of (record_of.Correction set witness proofs) = record { steps = []; goal = 0 }
