use Rattle.std.proofs.Common.{◌∙◌, ◌+◌, ap, subst, sym, drop, Ok, arith}
use Rattle.evidence_text.specs.Reading.{witnesses_at}
use Rattle.evidence_text.specs.Cursors.{left_of, Stops}
use Rattle.evidence_text.proofs.GroupLemmas.{after_front, witnesses-goes, witnesses-stop, witnesses-end, stopped}
use Rattle.evidence_text.proofs.record.read_witnesses.Goals as goal

-- one more was read
pub loop-g-preserved : goal.loop-g-preserved
loop-g-preserved c =
    let i = c.loop-g.invariant in
    let groups = c.as_slice-g-items.result.now in
    let left = left_of c.read_witness_line.new.lines in
    record {
      read =
          ap (λ ws. after_front ws (witnesses_at c.args.vars (drop (c.loop-g.g-index + 1) groups) left.at left.lines)) c.in_ok-push.ensures.items
          ∙ witnesses-goes c.args.vars groups c.loop-g.g-index c.loop-g.witnesses.items c.in_ok-witness.witness (left_of c.loop-g.lines) left _ c.loop-g-test.true c.in_ok-witness.ensures.witness i.read;
      rest = c.in_ok-witness.ensures.rest ∙ i.rest;
    }

-- none is left
pub returns-clause-witnesses : goal.returns-clause-witnesses
returns-clause-witnesses c =
    let left = left_of c.loop-g.lines in
    let low = c.loop-g-test.false in
    let high = c.loop-g.auto.g-index-end in
    ap (λ gs. witnesses_at c.args.vars gs c.args.lines.now.at (left_of c.args.lines.now).lines) (sym c.as_slice-g-items.ensures.groups)
    ∙ witnesses-end c.args.vars c.as_slice-g-items.result.now c.loop-g.g-index c.loop-g.witnesses.items left _ (omega arith) c.loop-g.invariant.read
    ∙ ap (λ ws. Ok (ws, left)) (sym c.from_vec.ensures)

-- why the next one isn't read is why all aren't
pub returns-in_err-witness-clause-witnesses : goal.returns-in_err-witness-clause-witnesses
returns-in_err-witness-clause-witnesses c =
    let stop = c.in_err-witness.field-0.0 in
    let handed = c.from_residual-in_err-witness.ensures in
    stopped (λ ws. ws) c.from_residual-in_err-witness.result stop (left_of c.read_witness_line.new.lines) _ handed.0 handed.1
    (subst (λ gs. Stops stop (witnesses_at c.args.vars gs c.args.lines.now.at (left_of c.args.lines.now).lines)) c.as_slice-g-items.ensures.groups
    (witnesses-stop c.args.vars c.as_slice-g-items.result.now c.loop-g.g-index c.loop-g.witnesses.items stop (left_of c.loop-g.lines) _ c.loop-g-test.true c.in_err-witness.ensures.witness c.loop-g.invariant.read))
