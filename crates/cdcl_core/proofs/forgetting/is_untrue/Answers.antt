use Rattle.std.proofs.Common.{arith}
use Rattle.trail_book.specs.Trail.{trues}
use Rattle.cdcl_core.proofs.ForgetLemmas.{untrue_more, untrue_all}
use Rattle.cdcl_core.proofs.forgetting.is_untrue.Goals as goal

pub loop-lit-preserved : goal.loop-lit-preserved
loop-lit-preserved c =
    untrue_more (trues c.args.trail.now.entries) c.args.clause.now c.loop-lit.lit-index c.lit-item.result (omega arith) c.lit-item.is (c.is_true.ensures.no (grind arith)) c.loop-lit.invariant

pub returns : goal.returns
returns c = λ e. untrue_all (trues c.args.trail.now.entries) c.args.clause.now c.loop-lit.lit-index (omega arith) c.loop-lit.invariant
