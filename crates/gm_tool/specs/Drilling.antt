-- What a drilling tells: what each status says, its cause, and what has to come.
use Rattle.std.specs.Prelude.{◌≡◌, ℕ, List, [], ◌∷◌, length, Some}
use Rattle.gm_base.specs.Problem.{Problem}
use Rattle.gm_base.specs.Minimal.{conflicts, corrections}
use Rattle.gm_ports.specs.Faults.{Rose}
use Rattle.gm_ports.specs.Told.{ToldAppends, ToldGrowsWithin}
use Rattle.gcnf_text.specs.Chain.{made_case}
use Rattle.gm_words.specs.Reading.{Drilling}
use Rattle.evidence_rec.specs.declared.record.Record.{Record}
use Rattle.map_core.specs.declared.closing.Closing.{Closing}
use Rattle.map_core.specs.declared.entry.Goal.TheVariants.{All}
use Rattle.gm_io.specs.declared.bounds.Bounds.{Bounds}
use Rattle.gm_io.specs.declared.ending.Finish.{Finish}
use Rattle.gm_io.specs.Counts.{drill_line}
use Rattle.gm_io.specs.Endings.{bare, status_by}
use Rattle.gm_io.specs.Outside.{Outside}
use Rattle.gm_tool.specs.Closed.{IsEnumerated, conflicts_in, corrections_in, greatest_bounds}
use Rattle.gm_tool.specs.Run.{IsReportFault}
use Rattle.gm_tool.specs.Statuses.{IsAmong, IsAfterwards, IsReported, IsPartial}

-- the greatest bounds, for so many workers
abbrev pub drill_bounds : ℕ → Bounds
drill_bounds jobs = greatest_bounds All jobs

-- of all minimal ones
abbrev pub full_counts : Problem → List ℕ
full_counts p = drill_line p.groups (length (conflicts p)) (length (corrections p))

-- of those that records are about
abbrev pub held_counts : Problem → List Record → List ℕ
held_counts p records = drill_line p.groups (length (conflicts_in records)) (length (corrections_in records))

-- the enumeration of a problem is over, and the report's sink got the line of all, or of what is held, and nothing else; or
-- with 7 a front part of it
pub record IsDrilled (p : Problem) (b : Bounds) (old new : Outside) (Gets : List ℕ → Type 0) (finish : Finish) : Type 0 where
  pub closing : Closing
  pub left : finish.closing ≡ Some closing
  pub enumerated : IsEnumerated p [] b finish.logs closing
  pub verdict : IsReported finish.status → status_by closing.verdict ≡ finish.status
  pub whole : finish.status ≡ 0 → ToldAppends old.got new.got (full_counts p)
  pub partial : IsPartial finish.status → ToldAppends old.got new.got (held_counts p closing.records)
  pub cut_off : finish.status ≡ 7 → IsReportFault Gets old new × ToldGrowsWithin old.got new.got (held_counts p closing.records)

pub record IsDrilling (d : Drilling) (old new : Outside) (Gets : List ℕ → Type 0) (finish : Finish) : Type 0 where
  pub statuses : IsAmong (0 ∷ 3 ∷ 4 ∷ 7 ∷ 8 ∷ []) finish.status
  -- of the problem that the numbers make
  pub drilled : IsAfterwards finish.status → IsDrilled (made_case d.seed d.size) (drill_bounds d.jobs) old new Gets finish
  pub memory : finish.status ≡ 8 → finish ≡ bare 8
  -- where the line could be written
  pub written : ¬ Rose old.faults new.faults → IsAmong (0 ∷ 3 ∷ 4 ∷ 8 ∷ []) finish.status
  pub untouched : new.files ≡ old.files
