use Rattle.std.proofs.Common.{◌≡◌, ◌+◌, ◌≤◌, ◌++◌, length, map, All, vec_capacity}
use Rattle.lock_tally.specs.Crews.{seat_of, IsReady}
use Rattle.lock_tally.proofs.crew.seat_workers.Given as goal

-- the seats so far have workers that are ready, and there is room for those that are left
abbrev pub invariant-loop-seat : goal.invariant-loop-seat
invariant-loop-seat l =
    (map seat_of l.workers.items ++ l.seat-iterator.rest.items ≡ l.fn.seats.items)
    × All (IsReady l.fn.turns) l.workers.items
    × (length l.workers.items + length l.seat-iterator.rest.items ≤ vec_capacity l.workers)
