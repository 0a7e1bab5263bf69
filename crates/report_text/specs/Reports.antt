-- The report of sets that come in any order.
use Rattle.std.specs.Prelude.{◌≡◌, ℕ, Bool, List}
use Rattle.report_text.specs.Report.{report_text}
use Rattle.report_text.specs.Sorted.{IsSortedOf}

-- the text is the report of the conflicts and the corrections in lexicographic order
pub record IsReportOf (groups : ℕ) (complete : Bool) (conflicts corrections : List (List ℕ)) (text : List ℕ) : Type 0 where
  pub us : List (List ℕ)
  pub ms : List (List ℕ)
  pub conflicts_in_order : IsSortedOf conflicts us
  pub corrections_in_order : IsSortedOf corrections ms
  pub same : text ≡ report_text groups complete us ms
