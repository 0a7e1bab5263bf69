use Rattle.std.proofs.Common.{arith, map}
use Rattle.std.proofs.lemmas.Result.{err_from_is_err_and}
use Rattle.evidence_text.specs.Text.{text_of, step_line}
use Rattle.evidence_text.proofs.PuttingLemmas.{up_to-begin, up_to-more, up_to-cut, up_to-end, steps-left, steps-none}
use Rattle.evidence_text.proofs.putting.put_steps.Goals as goal

pub loop-at-init : goal.loop-at-init
loop-at-init g c = up_to-begin c.args.waiting.now.items (text_of (map step_line c.args.proof.now.steps)) (g.met.S.LineSink.adds_up.nothing c.args.sink.now)

pub returns-in_err-put_step : goal.returns-in_err-put_step
returns-in_err-put_step g c =
    let p = err_from_is_err_and c.from_residual.result c.from_residual.ensures.1 in
    rw (p.1, p.2)
    (up_to-cut g.met.S.LineSink.adds_up c.args.sink.now c.loop-at.sink c.put_step.new.sink c.args.waiting.now.items c.loop-at.waiting.items c.put_step.new.waiting.items _ _ _ _ _
    (steps-left c.args.proof.now.steps c.loop-at.at _ c.step.ensures) c.loop-at.invariant c.in_err-put_step.ensures)

pub loop-at-preserved : goal.loop-at-preserved
loop-at-preserved g c =
    up_to-more g.met.S.LineSink.adds_up c.args.sink.now c.loop-at.sink c.put_step.new.sink c.args.waiting.now.items c.loop-at.waiting.items c.put_step.new.waiting.items _ _ _ _
    (steps-left c.args.proof.now.steps c.loop-at.at _ c.step.ensures) c.loop-at.invariant c.in_ok-put_step.ensures

pub returns : goal.returns
returns g c = up_to-end c.args.waiting.now.items c.loop-at.waiting.items _ _ (steps-none c.args.proof.now.steps c.loop-at.at (omega arith)) c.loop-at.invariant
