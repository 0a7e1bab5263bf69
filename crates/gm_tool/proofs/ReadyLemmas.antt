-- What is left of an enumeration, with the log of what was asked before.
use Rattle.std.proofs.Common.{◌≡◌, ◌≢◌, ℕ, ◌+◌, ◌≤◌, List, ◌++◌, Option, Some, None, Ok, Err, Result, sym, ◌∙◌, ap, subst, arith}
use Rattle.std.specs.Prelude.{IfSome}
use Rattle.std.proofs.lemmas.List.Sums.{sum_by-cons}
use Rattle.gm_base.specs.Problem.{Problem}
use Rattle.lrat_steps.specs.Log.{LogStep, learned_count}
use Rattle.evidence_rec.specs.declared.record.Record.{Record}
use Rattle.map_core.specs.declared.closing.Verdict.TheVariants as verdict
use Rattle.map_core.specs.declared.closing.Closing.{Closing}
use Rattle.map_core.specs.declared.entry.Goal.TheVariants.{All}
use Rattle.map_core.specs.declared.entry.Opening.{Opening}
use Rattle.gm_io.specs.declared.bounds.Bounds.{Bounds}
use Rattle.gm_io.specs.declared.ending.Enumerated.{Enumerated}
use Rattle.gm_io.specs.declared.writing.Stop.{Stop}
use Rattle.gm_io.specs.declared.writing.Stop.TheVariants.{ReportFault, EvidenceFault, EvidenceMemory}
use Rattle.gm_io.specs.Endings.{error_line, finish_of, status_by}
use Rattle.gm_tool.specs.declared.list.Course.{Course}
use Rattle.gm_tool.specs.declared.prepared.Prepared.{Prepared}
use Rattle.gm_tool.specs.Closed.{IsClosedFor, IsLeft, learned_in, report_for}
use Rattle.gm_tool.specs.Prepared.{IsReady, all_logs, logs_before}
use Rattle.gm_tool.specs.Steps.{listed_by}

-- no more is learnt than the budget
pub spent-within : {p : Problem} {first : List Record} {b : Bounds} {own : Enumerated} → IsLeft p first b own → own.spent ≤ b.conflicts
spent-within {own = own} h =
    let left = h.closed.left in
    let spent = h.spent ∙ left.learned in
    let budget = left.closing_is.sound.budget ∙ ap (λ (o : Opening). o.budget) left.opening in
    omega arith

logs-before : (before : Option (List LogStep)) (own left : Enumerated) → left ≡ all_logs before own → left.logs ≡ logs_before before ++ own.logs
logs-before None own left is = ap (λ (e : Enumerated). e.logs) is
logs-before (Some log) own left is = ap (λ (e : Enumerated). e.logs) is

pub closing-before : (before : Option (List LogStep)) (own left : Enumerated) → left ≡ all_logs before own → left.closing ≡ own.closing
closing-before None own left is = ap (λ (e : Enumerated). e.closing) is
closing-before (Some log) own left is = ap (λ (e : Enumerated). e.closing) is

spent-before : (before : Option (List LogStep)) (own left : Enumerated) → left ≡ all_logs before own → own.spent ≡ learned_in own.logs → left.spent ≡ learned_in left.logs
spent-before None own left is spent = ap (λ (e : Enumerated). e.spent) is ∙ spent ∙ sym (ap (λ (e : Enumerated). learned_in e.logs) is)
spent-before (Some log) own left is spent =
    ap (λ (e : Enumerated). e.spent) is ∙ ap (λ (n : ℕ). learned_count log + n) spent ∙ sym (sum_by-cons learned_count log own.logs) ∙ sym (ap (λ (e : Enumerated). learned_in e.logs) is)

-- however the writing ends, the answer tells what is left
pub closing-listed : (ready : Prepared) (written : Result (Unit {0}) Stop) (closing : Closing) → ready.left.closing ≡ closing → IfSome (finish_of (listed_by ready written)).closing (λ k. k ≡ closing)
closing-listed ready (Ok done) closing is = is
closing-listed ready (Err ReportFault) closing is = is
closing-listed ready (Err EvidenceFault) closing is = is
closing-listed ready (Err EvidenceMemory) closing is = is

-- all that is to be written is made
pub ready-by : (p : Problem) (course : Course) (own : Enumerated) (ready : Prepared) → ready.left ≡ all_logs course.before own → IsLeft p course.first course.bounds own
    → course.bounds.goal ≡ All
    → own.closing.verdict ≢ verdict.Memory → ready.line.items ≡ error_line course.told (status_by own.closing.verdict) → ready.text.items ≡ report_for p own.closing
    → IsReady p course ready
ready-by p course own ready is left all enough line text =
    let same : ready.left.closing ≡ own.closing = closing-before course.before own ready.left is in
    record {
      all = all;
      logs = own.logs;
      logs_are = logs-before course.before own ready.left is;
      closed = subst (IsClosedFor p course.first course.bounds own.logs) (sym same) left.closed;
      spent = spent-before course.before own ready.left is left.spent;
      enough_memory = λ memory. enough (sym (ap (λ (k : Closing). k.verdict) same) ∙ memory);
      line = line ∙ sym (ap (λ (k : Closing). error_line course.told (status_by k.verdict)) same);
      text = text ∙ sym (ap (report_for p) same);
    }
