use Rattle.std.proofs.Common.{rules, ap, ℕ, ◌<◌, ◌≤◌, ◌^◌, arith}
use Rattle.std.proofs.lemmas.Grind.{common_steps}
use Rattle.turn_lock.proofs.Steps.{may_split}
use Rattle.turn_lock.proofs.lock.deal.Goals as goal

pub split_seat-requires : goal.split_seat-requires
split_seat-requires g c =
    let number : ℕ = c.loop-number.number in
    let me = c.loop-number.invariant.2 in
    let made = ap (λ m. m.0.made) me in
    let from_one : 1 ≤ number = c.loop-number.auto.number in
    let low : number < c.args.seats = c.loop-number-test.true in
    let fits : c.args.seats < 2 ^ 32 = c.ranges.seats.fits in
    (search rules, search rules, may_split _ _ _ _ _ _ _ (ap (λ m. m.0.stage) me) (omega arith) (omega arith))

-- the badge is the new seat's, whose number is how many there were
pub invariant_of-push_reserved : goal.invariant_of-push_reserved
invariant_of-push_reserved g c = search rules

-- one seat more, with the next number
pub loop-number-preserved : goal.loop-number-preserved
loop-number-preserved g c = grind (arith, common_steps)
