use Rattle.std.proofs.Common.{◌≡◌, ◌+◌, ◌*◌, ◌-◌, arith, subst}
use Rattle.size_counter.proofs.PlaceLemmas.{area, area-small}
use Rattle.size_counter.proofs.counter.counter_len.Goals as goal

pub overflow_mul-result-2 : goal.overflow_mul-result-2
overflow_mul-result-2 c =
    let is = c.min-wide.ensures in
    let fit = c.ranges.rows in
    record { fits = area-small c.min-wide.result c.args.rows (omega arith) (omega arith) }

-- two squares less one
pub returns : goal.returns
returns c =
    let is = c.min-wide.ensures in
    subst (λ w. c.min-wide.result * (2 * c.args.rows - c.min-wide.result) + w * w ≡ 2 * c.args.rows * w) is
    (area c.min-wide.result c.args.rows (omega arith))
