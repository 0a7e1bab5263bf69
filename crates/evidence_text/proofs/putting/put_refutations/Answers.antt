use Rattle.std.proofs.Common.{length, ap, arith}
use Rattle.std.proofs.lemmas.Result.{err_from_is_err_and}
use Rattle.evidence_rec.specs.Shorten.{shortened_refutations}
use Rattle.evidence_text.specs.Text.{text_of, refutations_lines}
use Rattle.evidence_text.proofs.PuttingLemmas.{up_to-begin, up_to-more, up_to-cut, up_to-end, refutations-left, refutations-none}
use Rattle.evidence_text.proofs.putting.put_refutations.Goals as goal

pub loop-at-init : goal.loop-at-init
loop-at-init g c = up_to-begin c.args.waiting.now.items (text_of (refutations_lines c.args.set.now (shortened_refutations c.args.earlier.now c.args.set.now c.args.set.now c.args.proofs.now))) (g.met.S.LineSink.adds_up.nothing c.args.sink.now)

pub returns-in_err-put_shortened : goal.returns-in_err-put_shortened
returns-in_err-put_shortened g c =
    let p = err_from_is_err_and c.from_residual.result c.from_residual.ensures.1 in
    rw (p.1, p.2)
    (up_to-cut g.met.S.LineSink.adds_up c.args.sink.now c.loop-at.sink c.put_shortened.new.sink c.args.waiting.now.items c.loop-at.waiting.items c.put_shortened.new.waiting.items _ _ _ _ _
    (refutations-left c.args.earlier.now c.args.set.now c.as_slice-groups.result.now c.args.proofs.now c.loop-at.at c.at.result.now c.least_by-least.result c.as_slice-groups.ensures.groups (omega arith) c.at.ensures
    c.least_by-least.ensures) c.loop-at.invariant c.in_err-put_shortened.ensures)

pub loop-at-preserved : goal.loop-at-preserved
loop-at-preserved g c =
    up_to-more g.met.S.LineSink.adds_up c.args.sink.now c.loop-at.sink c.put_shortened.new.sink c.args.waiting.now.items c.loop-at.waiting.items c.put_shortened.new.waiting.items _ _ _ _
    (refutations-left c.args.earlier.now c.args.set.now c.as_slice-groups.result.now c.args.proofs.now c.loop-at.at c.at.result.now c.least_by-least.result c.as_slice-groups.ensures.groups (omega arith) c.at.ensures
    c.least_by-least.ensures) c.loop-at.invariant c.in_ok-put_shortened.ensures

pub returns : goal.returns
returns g c = up_to-end c.args.waiting.now.items c.loop-at.waiting.items _ _ (refutations-none c.args.earlier.now c.args.set.now c.args.proofs.now c.loop-at.at (omega (arith, ap length c.as_slice-groups.ensures.groups))) c.loop-at.invariant
