-- What is written of an enumeration: the evidence, where it is asked for, and behind it the report; or what cut them off.
use Rattle.std.specs.Prelude.{◌≡◌, ◌≢◌, Result, Ok, Err, ℕ, List, Option, Some, None, IfSome}
use Rattle.gm_base.specs.Problem.{Problem}
use Rattle.gm_ports.specs.Faults.{Rose}
use Rattle.gm_ports.specs.FilesState.{FilesState, WritingLeaves}
use Rattle.gm_ports.specs.Told.{ToldAppends, ToldGrowsWithin}
use Rattle.map_core.specs.declared.closing.Closing.{Closing}
use Rattle.gm_io.specs.declared.writing.Stop.{Stop}
use Rattle.gm_io.specs.declared.writing.Stop.TheVariants as stop
use Rattle.gm_io.specs.Evidence.{evidence_of, HasSmallIds}
use Rattle.gm_io.specs.Outside.{Outside}
use Rattle.gm_io.specs.Writing.{IsWritten, IsFront}

-- the evidence is written whole, where it is asked for
pub record IsEvidenceWhole (p : Problem) (asked : Option (List ℕ)) (closing : Closing) (old new : FilesState) : Type 0 where
  pub written : IfSome asked (λ name. IsWritten name (evidence_of p closing) new)
  pub ids : asked ≢ None → HasSmallIds closing
  pub quiet : new.write_faults ≡ old.write_faults
  pub leaves : WritingLeaves (λ name. asked ≡ Some name) old new
  pub unasked : asked ≡ None → new ≡ old

-- or a front part of it
pub record IsEvidenceFront (p : Problem) (asked : Option (List ℕ)) (closing : Closing) (old new : FilesState) : Type 0 where
  pub wanted : asked ≢ None
  pub front : IsFront (evidence_of p closing) new
  pub ids : HasSmallIds closing
  pub leaves : WritingLeaves (λ name. asked ≡ Some name) old new

-- the evidence of a closing is written, where it is asked for, and the report behind it, or what cut them off
abbrev pub Writes : Problem → Option (List ℕ) → Closing → List ℕ → Outside → Outside → Result (Unit {0}) Stop → Type 0
Writes p asked closing report old new (Ok done) =
    IsEvidenceWhole p asked closing old.files new.files × ToldAppends old.got new.got report × (new.faults ≡ old.faults)
Writes p asked closing report old new (Err stop.ReportFault) =
    IsEvidenceWhole p asked closing old.files new.files × ToldGrowsWithin old.got new.got report × Rose old.faults new.faults
Writes p asked closing report old new (Err stop.EvidenceFault) =
    IsEvidenceFront p asked closing old.files new.files × Rose old.files.write_faults new.files.write_faults × (new.got ≡ old.got)
Writes p asked closing report old new (Err stop.EvidenceMemory) = IsEvidenceFront p asked closing old.files new.files × (new.got ≡ old.got)
