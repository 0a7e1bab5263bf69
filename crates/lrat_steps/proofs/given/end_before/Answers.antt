use Rattle.std.proofs.Common.{◌-◌, arith}
use Rattle.sat_base.proofs.SpanLemmas.{item_behind}
use Rattle.lrat_steps.proofs.given.end_before.Goals as goal

-- the ends begin at the second place
pub returns : goal.returns
returns c = item_behind 0 c.args.ends.now (c.args.at - 1) c.args.at 0 (omega arith)
