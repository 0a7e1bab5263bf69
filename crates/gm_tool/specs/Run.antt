-- What holds of every run, whatever command it was asked for.
use Rattle.std.specs.Prelude.{◌≡◌, ◌≢◌, ◌⊎◌, ℕ, List, []}
use Rattle.sat_base.specs.Members.{In}
use Rattle.gm_ports.specs.Faults.{Rose}
use Rattle.gm_ports.specs.FilesState.{ReadingLeaves, StaysAsTold}
use Rattle.gm_io.specs.declared.bounds.Bounds.{Bounds}
use Rattle.gm_io.specs.declared.ending.Finish.{Finish}
use Rattle.gm_io.specs.Endings.{bare, error_line, report_cut_line}
use Rattle.gm_io.specs.Outside.{Outside}
use Rattle.gm_tool.specs.Closed.{learned_in}
use Rattle.gm_tool.specs.Outputs.{Outputs}
use Rattle.gm_tool.specs.Statuses.{IsStatus, IsSilent, IsFaultless, IsBefore, IsToldByStatus}

-- a fault on the report, whose sink counted it
pub record IsReportFault (Gets : List ℕ → Type 0) (old new : Outside) : Type 0 where
  pub rose : Rose old.faults new.faults
  pub line : Gets report_cut_line

-- a fault on an output that was asked for, which the files counted; then the report got nothing
pub record IsOutputFault (outputs : Outputs) (Gets : List ℕ → Type 0) (old new : Outside) : Type 0 where
  pub wanted : outputs.names ≢ []
  pub rose : Rose old.files.write_faults new.files.write_faults
  pub line : Gets outputs.cut_line
  pub silent : new.got ≡ old.got

-- all counts of faults are as they were
pub record IsFaultFree (old new : Outside) : Type 0 where
  pub reads : new.files.read_faults ≡ old.files.read_faults
  pub writes : new.files.write_faults ≡ old.files.write_faults
  pub report : new.faults ≡ old.faults

-- what holds of every run within these bounds, which was asked for these outputs, if any
pub record IsRun (b : Bounds) (outputs : Outputs) (old new : Outside) (Gets : List ℕ → Type 0) (finish : Finish) : Type 0 where
  pub known : IsStatus finish.status
  pub learned : finish.spent ≡ learned_in finish.logs
  -- before an enumeration nothing is told of one, and no output was opened
  pub nothing_listed : IsBefore finish.status → finish ≡ bare finish.status
  pub before : IsBefore finish.status → ReadingLeaves old.files new.files
  pub silent : IsSilent finish.status → new.got ≡ old.got
  pub no_fault_dropped : IsFaultless finish.status → IsFaultFree old new
  pub write_fault : finish.status ≡ 7 → IsReportFault Gets old new ⊎ IsOutputFault outputs Gets old new
  pub error_line : IsToldByStatus finish.status → Gets (error_line b finish.status)
  -- no output is opened that is not asked for, and no names but theirs change
  pub unasked : outputs.names ≡ [] → ReadingLeaves old.files new.files
  pub names : (name : List ℕ) → ¬ In name outputs.names → StaysAsTold (old.files.held name) (new.files.held name)
