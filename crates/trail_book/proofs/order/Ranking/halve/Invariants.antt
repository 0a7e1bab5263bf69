use Rattle.std.proofs.Common.{◌≡◌, ◌/◌, ◌^◌, ◌++◌, ℕ, map, take, drop}
use Rattle.trail_book.proofs.order.Ranking.halve.Given as goal

-- those so far are halved
abbrev pub invariant-loop-activity : goal.invariant-loop-activity
invariant-loop-activity l =
    l.activity-items ≡ map (λ (activity : ℕ). activity / 2 ^ 32) (take l.activity-index l.initial.activity-items) ++ drop l.activity-index l.initial.activity-items
