use Rattle.std.proofs.Common.{◌≡◌, ◌∷◌, [], All, None, refl, sym, ◌∙◌, ap, subst, length, arith, length-append}
use Rattle.std.proofs.lemmas.List.Elements.{All-push}
use Rattle.worker_pool.specs.declared.worker.Worker.{Worker}
use Rattle.worker_pool.specs.Workers.{oracle_of, seat_of, pen_of}
use Rattle.worker_pool.proofs.Crewed.{first_of, told_of}
use Rattle.worker_pool.proofs.Penned.{pen_told, fewer_pens}
use Rattle.worker_pool.proofs.crew.hire.Goals as goal

-- the next oracle and the first seat have a worker
pub loop-oracle-preserved : goal.loop-oracle-preserved
loop-oracle-preserved g c =
    let i = c.loop-oracle.invariant in
    let ws = c.loop-oracle.workers.items in
    let more = c.push_reserved.new.self.items in
    let w : Worker _ _ = record { oracle = c.in-Some.oracle; seat = c.remove-seat.result; pen = c.first_of-pen.result; broken = None } in
    let next = c.in-Some.ensures.steps.0 in
    let seat = c.remove-seat.ensures in
    let pen = c.first_of-pen.ensures in
    let pushed = c.push_reserved.ensures in
    let left = ap length next in
    let alike = i.2 in
    let fewer = first_of c.loop-oracle.seats.items c.remove-seat.new.self.items c.remove-seat.result (omega arith) seat.value seat.by_index.2 in
    let size = ap length pushed.items ∙ length-append ws (w ∷ []) in
    let seats_size = ap length fewer in (
      told_of oracle_of ws more c.loop-oracle.oracle-iterator.rest.items c.next.new.self.rest.items w _ i.0 next pushed.items,
      told_of seat_of ws more c.loop-oracle.seats.items c.remove-seat.new.self.items w _ i.1 fewer pushed.items,
      omega arith,
      omega (arith, i.3, pushed.capacity),
      seat.capacity ∙ i.4,
      pen_told pen_of ws more c.loop-oracle.oracle-iterator.rest.items c.next.new.self.rest.items c.loop-oracle.pens.items c.first_of-pen.new.pens.items w _ i.5 next pen.some pen.none pushed.items,
      fewer_pens c.loop-oracle.pens.items c.first_of-pen.new.pens.items c.first_of-pen.result i.6 left pen.some pen.none,
      pen.room ∙ i.7,
      subst (All (λ u. u.broken ≡ None)) (sym pushed.items) (All-push (λ u. u.broken ≡ None) ws w i.8 refl),
    )
