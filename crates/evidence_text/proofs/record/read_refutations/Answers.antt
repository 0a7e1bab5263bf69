use Rattle.std.proofs.Common.{◌∙◌, ◌+◌, ap, subst, sym, drop, Ok, arith}
use Rattle.evidence_text.specs.Reading.{refutations_at}
use Rattle.evidence_text.specs.Cursors.{left_of, Stops}
use Rattle.evidence_text.proofs.GroupLemmas.{after_front, refutations-goes, refutations-stop, refutations-end, stopped}
use Rattle.evidence_text.proofs.record.read_refutations.Goals as goal

-- one more was read
pub loop-g-preserved : goal.loop-g-preserved
loop-g-preserved c =
    let i = c.loop-g.invariant in
    let groups = c.as_slice-g-items.result.now in
    let left = left_of c.read_refutation.new.lines in
    record {
      read =
          ap (λ rs. after_front rs (refutations_at c.args.version c.args.vars (drop (c.loop-g.g-index + 1) groups) left.at left.lines)) c.in_ok-push.ensures.items
          ∙ refutations-goes c.args.version c.args.vars groups c.loop-g.g-index c.loop-g.proofs.items c.in_ok-refutation.refutation (left_of c.loop-g.lines) left _ c.loop-g-test.true c.in_ok-refutation.ensures.refutation i.read;
      rest = c.in_ok-refutation.ensures.rest ∙ i.rest;
    }

-- none is left
pub returns-clause-proofs : goal.returns-clause-proofs
returns-clause-proofs c =
    let left = left_of c.loop-g.lines in
    let low = c.loop-g-test.false in
    let high = c.loop-g.auto.g-index-end in
    ap (λ gs. refutations_at c.args.version c.args.vars gs c.args.lines.now.at (left_of c.args.lines.now).lines) (sym c.as_slice-g-items.ensures.groups)
    ∙ refutations-end c.args.version c.args.vars c.as_slice-g-items.result.now c.loop-g.g-index c.loop-g.proofs.items left _ (omega arith) c.loop-g.invariant.read
    ∙ ap (λ rs. Ok (rs, left)) (sym c.from_vec.ensures)

-- why the next one isn't read is why all aren't
pub returns-in_err-refutation-clause-proofs : goal.returns-in_err-refutation-clause-proofs
returns-in_err-refutation-clause-proofs c =
    let stop = c.in_err-refutation.field-0.0 in
    let handed = c.from_residual-in_err-refutation.ensures in
    stopped (λ rs. rs) c.from_residual-in_err-refutation.result stop (left_of c.read_refutation.new.lines) _ handed.0 handed.1
    (subst (λ gs. Stops stop (refutations_at c.args.version c.args.vars gs c.args.lines.now.at (left_of c.args.lines.now).lines)) c.as_slice-g-items.ensures.groups
    (refutations-stop c.args.version c.args.vars c.as_slice-g-items.result.now c.loop-g.g-index c.loop-g.proofs.items stop (left_of c.loop-g.lines) _ c.loop-g-test.true c.in_err-refutation.ensures.refutation c.loop-g.invariant.read))
