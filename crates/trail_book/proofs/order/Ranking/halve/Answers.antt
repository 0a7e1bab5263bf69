use Rattle.std.proofs.Common.{◌/◌, ◌^◌, ℕ, get_or, arith}
use Rattle.std.proofs.lemmas.List.{get_or_default}
use Rattle.std.proofs.lemmas.List.Edits.{map_over_more}
use Rattle.trail_book.proofs.order.Ranking.halve.Goals as goal

-- one more is halved
pub loop-activity-preserved : goal.loop-activity-preserved
loop-activity-preserved c =
    let xs = c.deref_mut-activity-items.result.now in
    let ys = c.loop-activity.activity-items in
    let i = c.loop-activity.activity-index in
    map_over_more (λ (activity : ℕ). activity / 2 ^ 32) xs ys i (get_or ys i 0) c.loop-activity-test.true c.loop-activity.invariant
    (get_or_default ys i 0 (get_or ys i 0) (omega (arith, c.loop-activity-test.true, c.loop-activity.auto.activity-items)))
