use Rattle.std.proofs.Common.{◌≡◌, ◌+◌, ◌≤◌, ◌++◌, length, map, vec_capacity}
use Rattle.lock_tally.specs.Crews.{seat_of, replies_of, list_of}
use Rattle.lock_tally.proofs.crew.dismiss.Given as goal

-- the workers so far were taken apart, and there is room for those that are left
abbrev pub invariant-loop-worker : goal.invariant-loop-worker
invariant-loop-worker l =
    (l.seats.items ++ map seat_of l.worker-iterator.rest.items ≡ map seat_of l.fn.workers.items)
    × (map list_of l.replies.items ++ map replies_of l.worker-iterator.rest.items ≡ map replies_of l.fn.workers.items)
    × (length l.seats.items + length l.worker-iterator.rest.items ≤ vec_capacity l.seats)
    × (length l.replies.items + length l.worker-iterator.rest.items ≤ vec_capacity l.replies)
