use Rattle.std.proofs.Common.{arith}
use Rattle.sat_base.proofs.SpanLemmas.{spans_count}
use Rattle.sat_base.proofs.steps.Steps.len.Goals as goal

-- a span for each step
pub returns : goal.returns
returns c = let count = spans_count c.self.inside c.args.self.now c.self.view_is in omega arith
