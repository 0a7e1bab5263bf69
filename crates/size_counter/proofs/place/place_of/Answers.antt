use Rattle.std.proofs.Common.{◌+◌, ◌*◌, ◌<◌, arith, subst, sym}
use Rattle.size_counter.proofs.PlaceLemmas.{place-behind, row-below}
use Rattle.size_counter.proofs.place.place_of.Goals as goal

-- behind the wide rows each has two clauses a column
pub returns-else-at-wide : goal.returns-else-at-wide
returns-else-at-wide c =
    let e = c.in_row-else-at-wide.ensures in
    let is = c.min-wide.ensures in
    place-behind c.args.bound c.args.rows c.args.at c.min-wide.result c.in_row-else-at-wide.result is c.if-at-wide.false
    (subst (λ w. c.args.at + w * w < 2 * c.args.rows * w) (sym is) c.requires) e.rows e.columns e.carries

pub in_row-requires-else-at-wide-clause-rows : goal.in_row-requires-else-at-wide-clause-rows
in_row-requires-else-at-wide-clause-rows c =
    let is = c.min-wide.ensures in
    let fit = c.ranges.rows in
    let below =
    row-below c.args.rows c.args.at c.min-wide.result (omega arith) c.if-at-wide.false
    (subst (λ w. c.args.at + w * w < 2 * c.args.rows * w) (sym is) c.requires) in
    omega arith
