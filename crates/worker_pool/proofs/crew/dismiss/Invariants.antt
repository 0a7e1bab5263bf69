use Rattle.std.proofs.Common.{◌≡◌, ◌+◌, ◌≤◌, ◌++◌, ◌∷◌, length, map, All, vec_capacity}
use Rattle.evidence_rec.specs.Asking.{IsHonestOver}
use Rattle.worker_pool.specs.Pens.{all_some, first_some}
use Rattle.worker_pool.specs.Workers.{seat_of, pen_of, broken_of, log_of}
use Rattle.worker_pool.proofs.crew.dismiss.Given as goal

-- the workers so far were taken apart, and there is room for those that are left
abbrev pub invariant-loop-worker : goal.invariant-loop-worker
invariant-loop-worker g l =
    (l.seats.items ++ map seat_of l.worker-iterator.rest.items ≡ map seat_of l.fn.workers.items)
    × (l.logs.items ++ map (log_of g.O.Oracle.state) l.worker-iterator.rest.items ≡ map (log_of g.O.Oracle.state) l.fn.workers.items)
    × (length l.seats.items + length l.worker-iterator.rest.items ≤ vec_capacity l.seats)
    × (length l.logs.items + length l.worker-iterator.rest.items ≤ vec_capacity l.logs)
    × All (IsHonestOver l.problem) l.logs.items
    × All (λ w. (g.O.Oracle.state w.oracle).problem ≡ l.problem) l.worker-iterator.rest.items
    × (vec_capacity l.logs ≡ vec_capacity l.fn.logs)
    × (l.pens.items ++ all_some (map pen_of l.worker-iterator.rest.items) ≡ all_some (map pen_of l.fn.workers.items))
    × (length l.pens.items + length (all_some (map pen_of l.worker-iterator.rest.items)) ≤ vec_capacity l.pens)
    × (first_some (l.first ∷ map broken_of l.worker-iterator.rest.items) ≡ first_some (map broken_of l.fn.workers.items))
