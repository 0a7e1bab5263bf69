-- What evidence shows, said of the report of its sets.
use Rattle.std.proofs.Common.{◌≡◌, ℕ, Bool, true, false, List, Option, Some, None, IfSome, is_some, sym, ◌∙◌, subst}
use Rattle.std.proofs.lemmas.Bool.{false≢true}
use Rattle.sat_base.specs.Derivation.{Derivation}
use Rattle.gm_base.specs.Problem.{Problem, IsProblem}
use Rattle.report_text.specs.Reports.{IsReportOf}
use Rattle.evidence_rec.specs.declared.record.Record.{Record}
use Rattle.evidence_rec.specs.Records.{founds}
use Rattle.evidence_rec.specs.Seeding.{shows_all_explored}
use Rattle.evidence_rec.specs.Held.{HoldsAll, conflicts_in, corrections_in}
use Rattle.evidence_rec.proofs.Explored.{closing-explores, explored-holds_all}
use Rattle.gm_audit.specs.Audits.{AuditYes}
use Rattle.gm_io.proofs.OrderLemmas.{held_report-from}
use Rattle.gm_tool.specs.Checking.{shown_report}
use Rattle.gm_tool.proofs.ReportLemmas.{full_report-from}

-- no minimal set is missing where evidence is complete
holds_all : (p : Problem) (text : List ℕ) (records : List Record) → IsProblem p → AuditYes p text records true → HoldsAll p records
holds_all p text records ok shows = by shows.closing shows.is_complete shows.closes
  where
    by : (closing : Option Derivation) → true ≡ is_some closing → IfSome closing (λ d. shows_all_explored p.groups (founds records) d ≡ true) → HoldsAll p records
    by None other shown = absurd (false≢true (sym other))
    by (Some d) is shown = explored-holds_all p records ok shows.accepted (closing-explores p records d shows.accepted shown)

-- the report of records, by what they and their completeness are
pub report_with : (groups : ℕ) (complete whole : Bool) (records made : List Record) (report : List ℕ) → complete ≡ whole → records ≡ made
    → IsReportOf groups complete (conflicts_in records) (corrections_in records) report
    → IsReportOf groups whole (conflicts_in made) (corrections_in made) report
report_with groups complete whole records made report same is h =
    subst (λ rs. IsReportOf groups whole (conflicts_in rs) (corrections_in rs) report) is
    (subst (λ b. IsReportOf groups b (conflicts_in records) (corrections_in records) report) same h)

-- the report of the records' sets is the report of what is shown
pub shown_report-from : (p : Problem) (complete : Bool) (text : List ℕ) (records : List Record) (report : List ℕ) (groups : ℕ) → IsProblem p
    → AuditYes p text records complete → groups ≡ p.groups → IsReportOf groups complete (conflicts_in records) (corrections_in records) report
    → report ≡ shown_report p complete records
shown_report-from p false text records report groups ok shows count made =
    held_report-from p false records report ok shows.accepted shows.distinct
    (subst (λ n. IsReportOf n false (conflicts_in records) (corrections_in records) report) count made)
shown_report-from p true text records report groups ok shows count made =
    held_report-from p true records report ok shows.accepted shows.distinct
    (subst (λ n. IsReportOf n true (conflicts_in records) (corrections_in records) report) count made)
    ∙ full_report-from p records (holds_all p text records ok shows)
