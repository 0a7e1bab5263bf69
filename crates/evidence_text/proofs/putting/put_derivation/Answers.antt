use Rattle.std.proofs.Common.{[], map, refl}
use Rattle.std.proofs.lemmas.Result.{err_from_is_err_and}
use Rattle.evidence_text.specs.Text.{line_text, text_of, step_line, goal_line}
use Rattle.evidence_text.proofs.TextLemmas.{derivation_text}
use Rattle.evidence_text.proofs.PuttingLemmas.{puts-then, puts-part}
use Rattle.evidence_text.proofs.putting.put_derivation.Goals as goal

pub returns-in_err-put_steps : goal.returns-in_err-put_steps
returns-in_err-put_steps g c =
    let d = c.args.proof.now in
    let p = err_from_is_err_and c.from_residual.result c.from_residual.ensures.1 in
    rw (p.1, p.2)
    (puts-part (g.S.LineSink.took c.args.sink.now c.put_steps.new.sink) (g.S.LineSink.stopped c.args.sink.now c.put_steps.new.sink)
    c.args.waiting.now.items c.put_steps.new.waiting.items (text_of (map step_line d.steps)) (line_text (goal_line c.args.group d.goal)) _ _
    (derivation_text [] c.args.group d.goal d refl) c.in_err-put_steps.ensures)

pub returns : goal.returns
returns g c =
    puts-then g.met.S.LineSink.adds_up c.args.sink.now c.put_steps.new.sink c.put_goal.new.sink
    c.args.waiting.now.items c.put_steps.new.waiting.items c.put_goal.new.waiting.items _ _ _ c.put_goal.result
    (derivation_text [] c.args.group c.goal.result c.args.proof.now c.goal.ensures.goal) c.in_ok-put_steps.ensures c.put_goal.ensures
