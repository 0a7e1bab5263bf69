-- What an audit keeps from record to record.
use Rattle.std.specs.Prelude.{◌≡◌, []}
use Rattle.gm_base.specs.Problem.{Problem}
use Rattle.evidence_rec.specs.declared.record.Record.{Record}
use Rattle.evidence_rec.specs.Records.{set_of, IsShaped, AllAccepted}
use Rattle.evidence_rec.specs.Basis.{basis_of}
use Rattle.evidence_rec.specs.Held.{AreNew}
use Rattle.evidence_rec.specs.Index.{IsIndex}
use Rattle.evidence_text.specs.Readable.{IsSetUpTo}
use Rattle.gm_audit.specs.declared.auditor.Auditor.{Auditor}

-- what is read of a record, whatever the version: a set of the problem's groups, and one item of evidence for each
pub record HasForm (p : Problem) (r : Record) : Type 0 where
  pub set : IsSetUpTo p.groups (set_of r)
  pub shaped : IsShaped p r

-- the records so far passed, and their sets are known
pub record IsAuditing (p : Problem) (a : Auditor) : Type 0 where
  pub basis : a.checker ≡ basis_of p
  pub seen : IsIndex a.seen a.records
  pub accepted : AllAccepted p a.records
  pub distinct : AreNew [] a.records
