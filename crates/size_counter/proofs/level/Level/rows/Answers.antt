use Rattle.std.proofs.Common.{arith, ap, length}
use Rattle.size_counter.specs.Levels.{Level}
use Rattle.size_counter.proofs.FewLemmas.{order_fits}
use Rattle.size_counter.proofs.level.Level.rows.Goals as goal

-- there are no more groups in an order than in the problem
pub returns : goal.returns
returns c =
    let all = order_fits c.self.inside.groups c.self.inside.order.items c.self.invariant in
    let count = c.len.ensures in
    let least = c.min.ensures in
    let is = ap (λ (l : Level). length l.order) c.self.view_is in
    omega arith
