-- What a checking tells: what each status says, its cause, and what has to come.
use Rattle.std.specs.Prelude.{◌≡◌, ℕ, Bool, List, [], ◌∷◌, Some, if◌then◌else◌}
use Rattle.gm_base.specs.Problem.{Problem}
use Rattle.gm_ports.specs.Told.{ToldAppends, ToldGrowsWithin}
use Rattle.gm_words.specs.Reading.{Checking}
use Rattle.evidence_rec.specs.declared.record.Record.{Record}
use Rattle.gm_io.specs.declared.ending.Finish.{Finish}
use Rattle.gm_io.specs.Endings.{bare}
use Rattle.gm_io.specs.Input.{OfFile, ReadsIn}
use Rattle.gm_io.specs.Judging.{IsJudged, AreAccepted}
use Rattle.gm_io.specs.Outside.{Outside, NoneRose}
use Rattle.gm_io.specs.Resuming.{AreShown}
use Rattle.gm_tool.specs.Closed.{full_report, held_report}
use Rattle.gm_tool.specs.Run.{IsReportFault}
use Rattle.gm_tool.specs.Statuses.{IsAmong}

-- the report of the minimal sets that records are about: of all, where none is missing
abbrev pub shown_report : Problem → Bool → List Record → List ℕ
shown_report p complete records = if complete then full_report p else held_report p records

-- file and evidence are accepted, and the report's sink got the report of the sets that are shown, or with 7 a front part of it
pub record IsChecked (c : Checking) (old new : Outside) (Gets : List ℕ → Type 0) (status : ℕ) : Type 0 where
  pub problem : Problem
  pub reads : OfFile (old.files.held c.file) (λ text. ReadsIn c.focus text problem)
  pub complete : Bool
  pub records : List Record
  pub shown : AreShown problem (old.files.held c.evidence) complete records
  pub whole : status ≡ 0 → ToldAppends old.got new.got (shown_report problem complete records)
  pub cut_off : status ≡ 7 → IsReportFault Gets old new × ToldGrowsWithin old.got new.got (shown_report problem complete records)

pub record IsChecking (c : Checking) (old new : Outside) (Gets : List ℕ → Type 0) (finish : Finish) : Type 0 where
  pub statuses : IsAmong (0 ∷ 5 ∷ 6 ∷ 7 ∷ 8 ∷ 9 ∷ []) finish.status
  pub nothing_listed : finish ≡ bare finish.status
  pub checked : IsAmong (0 ∷ 7 ∷ []) finish.status → IsChecked c old new Gets finish.status
  -- 5, 6 and 9 have their causes
  pub judged : IsJudged c.file c.focus (Some c.evidence) old.files new.files Gets finish.status
  -- where file and evidence are accepted, and no fault was met
  pub accepted : NoneRose old new → AreAccepted old.files.held c.file c.focus (Some c.evidence) → IsAmong (0 ∷ 8 ∷ []) finish.status
