use Rattle.std.proofs.Common.{◌≡◌, List, Bool, subst, arith}
use Rattle.std.specs.Prelude.{IfOk}
use Rattle.edit_session.proofs.ValueLemmas.{values-start, values-next, values-end, values-same}
use Rattle.edit_session.proofs.witnesses.carried_witness.Goals as goal

-- as many variables
pub returns-then-len-vars : goal.returns-then-len-vars
returns-then-len-vars c =
    let w = c.args.witness.now in
    subst (λ (b : List Bool). IfOk c.copy.result (λ e. e ≡ b)) (values-same c.args.new.now w (omega (arith, c.len.ensures, c.vars.ensures, c.if-len-vars.true))) c.copy.ensures

pub loop-at-init : goal.loop-at-init
loop-at-init c = values-start c.args.witness.now c.in_ok-builder.builder c.args.new.now.vars (grind arith)

pub loop-at-preserved : goal.loop-at-preserved
loop-at-preserved c =
    values-next c.args.witness.now c.loop-at.builder c.set_if_true.new.builder c.loop-at.at c.args.new.now.vars (omega arith) c.requires c.loop-at.invariant c.set_if_true.ensures

pub returns : goal.returns
returns c =
    subst (λ (b : List Bool). IfOk c.finish.result (λ e. e ≡ b))
    (values-end c.args.new.now c.args.witness.now c.loop-at.builder c.loop-at.at (omega arith) (omega arith) c.loop-at.invariant)
    c.finish.ensures
