use Rattle.std.proofs.Common.{◌≡◌, Option, sym, subst}
use Rattle.lrat_steps.specs.Log.{LogStep}
use Rattle.gm_io.specs.declared.bounds.Bounds.{Bounds}
use Rattle.gm_io.specs.Endings.{error_line, status_by}
use Rattle.gm_tool.specs.Closed.{is_complete}
use Rattle.gm_tool.specs.Prepared.{all_logs}
use Rattle.gm_tool.proofs.ReadyLemmas.{closing-before, ready-by}
use Rattle.gm_tool.proofs.ReportLemmas.{report_for-from}
use Rattle.gm_tool.proofs.CheckLemmas.{report_with}
use Rattle.gm_tool.proofs.list.prepare.Goals as goal

-- no journal failed
pub line_by-requires : goal.line_by-requires
line_by-requires c = c.requires.left.2.closed.no_journal

-- the text is the report of the sets of the closing's records
pub returns-clause-ready : goal.returns-clause-ready
returns-clause-ready c = λ course before told all left.
    let own = c.args.own in
    ready-by c.args.problem.now course own (record { line = c.in_ok-line.line; text = c.in_ok-text.text; left = c.in_ok-left.left })
    (subst (λ b. c.in_ok-left.left ≡ all_logs b own) (sym before) c.in_ok-left.ensures) left all
    c.in_ok-line.ensures.enough_memory
    (subst (λ (b : Bounds). c.in_ok-line.line.items ≡ error_line b (status_by own.closing.verdict)) (sym told) c.in_ok-line.ensures.line)
    (report_for-from c.args.problem.now course.first course.bounds own.logs own.closing c.groups.result c.in_ok-text.text.items left.closed c.groups.ensures.count
    (report_with c.groups.result c.is_complete.result (is_complete own.closing.verdict) c.as_slice.result.now own.closing.records c.in_ok-text.text.items c.is_complete.ensures c.as_slice.ensures c.in_ok-text.ensures))

pub returns-clause-closing : goal.returns-clause-closing
returns-clause-closing c = closing-before c.args.before c.args.own c.in_ok-left.left c.in_ok-left.ensures
