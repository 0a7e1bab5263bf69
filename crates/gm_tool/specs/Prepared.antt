-- What is ready before a command that enumerates writes its text.
use Rattle.std.specs.Prelude.{◌≡◌, ◌≢◌, ℕ, ◌+◌, List, [], ◌∷◌, ◌++◌, Option, Some, None}
use Rattle.gm_base.specs.Problem.{Problem}
use Rattle.lrat_steps.specs.Log.{LogStep, learned_count}
use Rattle.evidence_rec.specs.declared.record.Record.{Record}
use Rattle.map_core.specs.declared.closing.Verdict.TheVariants as verdict
use Rattle.map_core.specs.declared.closing.Closing.{Closing}
use Rattle.map_core.specs.declared.entry.Goal.TheVariants.{All}
use Rattle.gm_io.specs.declared.bounds.Bounds.{Bounds}
use Rattle.gm_io.specs.declared.ending.Enumerated.{Enumerated}
use Rattle.gm_io.specs.Endings.{error_line, status_by}
use Rattle.gm_tool.specs.declared.list.Course.{Course}
use Rattle.gm_tool.specs.declared.prepared.Prepared.{Prepared}
use Rattle.gm_tool.specs.Closed.{IsClosedFor, IsLeft, learned_in, report_for}

-- the log of what was asked before, if anything was
abbrev pub logs_before : Option (List LogStep) → List (List LogStep)
logs_before None = []
logs_before (Some log) = log ∷ []

-- what is left of an enumeration, with that log before its own
abbrev pub all_logs : Option (List LogStep) → Enumerated → Enumerated
all_logs None own = own
all_logs (Some log) own = record { spent = learned_count log + own.spent; logs = log ∷ own.logs; closing = own.closing }

-- an enumeration is over, for which memory was not wanting
pub record IsOver (p : Problem) (first : List Record) (b : Bounds) (found : Enumerated) : Type 0 where
  pub left : IsLeft p first b found
  pub enough_memory : found.closing.verdict ≢ verdict.Memory

-- so all that is to be written is made, with the text for what is left
pub record IsPrepared (p : Problem) (first : List Record) (b : Bounds) (text_for : Closing → List ℕ) (prepared : Prepared) : Type 0 where
  pub over : IsOver p first b prepared.left
  pub line : prepared.line.items ≡ error_line b (status_by prepared.left.closing.verdict)
  pub text : prepared.text.items ≡ text_for prepared.left.closing

-- an enumeration that keeps to this course is over, and its report and the line of a bound are made; before its own logs stands
-- that of what was asked before
pub record IsReady (p : Problem) (course : Course) (ready : Prepared) : Type 0 where
  pub all : course.bounds.goal ≡ All
  pub logs : List (List LogStep)
  pub logs_are : ready.left.logs ≡ logs_before course.before ++ logs
  pub closed : IsClosedFor p course.first course.bounds logs ready.left.closing
  pub spent : ready.left.spent ≡ learned_in ready.left.logs
  pub enough_memory : ready.left.closing.verdict ≢ verdict.Memory
  pub line : ready.line.items ≡ error_line course.told (status_by ready.left.closing.verdict)
  pub text : ready.text.items ≡ report_for p ready.left.closing
