use Rattle.std.proofs.Common.{◌≡◌, ◌+◌, ◌≤◌, ◌++◌, length, map, All, None, vec_capacity}
use Rattle.worker_pool.specs.Pens.{one_each}
use Rattle.worker_pool.specs.Workers.{oracle_of, seat_of, pen_of}
use Rattle.worker_pool.proofs.crew.hire.Given as goal

-- the oracles, the seats and the pens so far have workers, and there are as many left of the first two
abbrev pub invariant-loop-oracle : goal.invariant-loop-oracle
invariant-loop-oracle g l =
    (map oracle_of l.workers.items ++ l.oracle-iterator.rest.items ≡ l.fn.oracles.items)
    × (map seat_of l.workers.items ++ l.seats.items ≡ l.fn.seats.items)
    × (length l.seats.items ≡ length l.oracle-iterator.rest.items)
    × (length l.workers.items + length l.oracle-iterator.rest.items ≤ vec_capacity l.workers)
    × (vec_capacity l.seats ≡ vec_capacity l.fn.seats)
    × (map pen_of l.workers.items ++ one_each (length l.oracle-iterator.rest.items) l.pens.items ≡ one_each (length l.fn.oracles.items) l.fn.pens.items)
    × (length l.pens.items ≤ length l.oracle-iterator.rest.items)
    × (vec_capacity l.pens ≡ vec_capacity l.fn.pens)
    × All (λ w. w.broken ≡ None) l.workers.items
