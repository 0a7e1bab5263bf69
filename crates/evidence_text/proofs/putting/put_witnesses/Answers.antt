use Rattle.std.proofs.Common.{arith}
use Rattle.std.proofs.lemmas.Result.{err_from_is_err_and}
use Rattle.evidence_text.specs.Text.{text_of, witnesses_lines}
use Rattle.evidence_text.proofs.PuttingLemmas.{up_to-begin, up_to-more, up_to-cut, up_to-end, witnesses-left, witnesses-none}
use Rattle.evidence_text.proofs.putting.put_witnesses.Goals as goal

pub loop-at-init : goal.loop-at-init
loop-at-init g c = up_to-begin c.args.waiting.now.items (text_of (witnesses_lines c.args.groups.now c.args.witnesses.now)) (g.met.S.LineSink.adds_up.nothing c.args.sink.now)

pub returns-in_err-put_witness : goal.returns-in_err-put_witness
returns-in_err-put_witness g c =
    let p = err_from_is_err_and c.from_residual.result c.from_residual.ensures.1 in
    rw (p.1, p.2)
    (up_to-cut g.met.S.LineSink.adds_up c.args.sink.now c.loop-at.sink c.put_witness.new.sink c.args.waiting.now.items c.loop-at.waiting.items c.put_witness.new.waiting.items _ _ _ _ _
    (witnesses-left c.args.groups.now c.args.witnesses.now c.loop-at.at _ (omega arith) c.at.ensures) c.loop-at.invariant c.in_err-put_witness.ensures)

pub loop-at-preserved : goal.loop-at-preserved
loop-at-preserved g c =
    up_to-more g.met.S.LineSink.adds_up c.args.sink.now c.loop-at.sink c.put_witness.new.sink c.args.waiting.now.items c.loop-at.waiting.items c.put_witness.new.waiting.items _ _ _ _
    (witnesses-left c.args.groups.now c.args.witnesses.now c.loop-at.at _ (omega arith) c.at.ensures) c.loop-at.invariant c.in_ok-put_witness.ensures

pub returns : goal.returns
returns g c = up_to-end c.args.waiting.now.items c.loop-at.waiting.items _ _ (witnesses-none c.args.groups.now c.args.witnesses.now c.loop-at.at (omega arith)) c.loop-at.invariant
