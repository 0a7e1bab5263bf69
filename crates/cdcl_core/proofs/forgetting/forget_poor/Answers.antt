use Rattle.std.proofs.Common.{◌∙◌}
use Rattle.cdcl_core.proofs.StateLemmas.{paid_join}
use Rattle.cdcl_core.proofs.forgetting.forget_poor.Goals as goal

-- marks cost nothing
pub returns-in_err-forget_one-clause-paid : goal.returns-in_err-forget_one-clause-paid
returns-in_err-forget_one-clause-paid c = λ left.
    paid_join c.args.search.now.log c.loop-id.search.log c.forget_one.new.search.log left left left (c.loop-id.invariant.paid left) (c.forget_one.ensures.paid left)

pub loop-id-preserved-then-may_go : goal.loop-id-preserved-then-may_go
loop-id-preserved-then-may_go c = record {
  stale = c.in_ok-forget_one.ensures.stale;
  paid = λ left. paid_join c.args.search.now.log c.loop-id.search.log c.forget_one.new.search.log left left left (c.loop-id.invariant.paid left) (c.forget_one.ensures.paid left);
  vars = c.forget_one.ensures.vars ∙ c.loop-id.invariant.vars;
  touched = c.forget_one.ensures.touched ∙ c.loop-id.invariant.touched;
  true_first = c.forget_one.ensures.true_first ∙ c.loop-id.invariant.true_first;
  levels = c.forget_one.ensures.levels ∙ c.loop-id.invariant.levels;
  reached = c.forget_one.ensures.reached ∙ c.loop-id.invariant.reached;
}
