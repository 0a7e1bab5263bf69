use Rattle.std.proofs.Common.{◌-◌, arith}
use Rattle.sat_base.specs.Cuts.{start}
use Rattle.sat_base.proofs.SpanLemmas.{item_behind}
use Rattle.sat_base.proofs.steps.span_before.Goals as goal

-- the spans begin at the second place
pub returns : goal.returns
returns c = item_behind start c.args.spans.now (c.args.at - 1) c.args.at start (omega arith)
