use Rattle.std.proofs.Common.{◌≡◌, ◌∷◌, [], length, All, refl, sym, ◌∙◌, ap, subst, arith, length-append}
use Rattle.std.proofs.lemmas.List.Elements.{All-push, All-head, All-tail}
use Rattle.evidence_rec.specs.Asking.{IsHonestOver}
use Rattle.worker_pool.specs.Workers.{seat_of, log_of}
use Rattle.worker_pool.proofs.Crewed.{taken_over, all_taken}
use Rattle.worker_pool.proofs.Penned.{pens_back, pens_room, broken_back, pen_room, all_back, first_left}
use Rattle.worker_pool.proofs.crew.dismiss.Goals as goal

-- the worker's seat and its oracle's log come to the end of their lists
pub loop-worker-preserved : goal.loop-worker-preserved
loop-worker-preserved g c =
    let state = g.O.Oracle.state in
    let i = c.loop-worker.invariant in
    let w = c.in-Some.worker in
    let old = c.loop-worker.worker-iterator.rest.items in
    let rest = c.next.new.self.rest.items in
    let next : old ≡ w ∷ rest = c.in-Some.ensures.steps.0 in
    let seats = c.push_reserved.ensures in
    let logs = c.push_reserved-in-loop-worker.ensures in
    let log = c.into_log.ensures.log in
    let left = ap length next in
    let seats_size = ap length seats.items ∙ length-append c.loop-worker.seats.items (w.seat ∷ []) in
    let logs_size = ap length logs.items ∙ length-append c.loop-worker.logs.items (c.into_log.result ∷ []) in
    let asks = subst (All (λ u. (state u.oracle).problem ≡ c.args.problem.now)) next i.5 in
    let of = All-head (λ u. (state u.oracle).problem ≡ c.args.problem.now) w rest asks in
    let honest = subst (IsHonestOver c.args.problem.now) (sym log) (subst (λ p. IsHonestOver p (state w.oracle).log) of c.into_log.ensures.honest) in (
      taken_over seat_of c.loop-worker.seats.items c.push_reserved.new.self.items old rest w w.seat _ i.0 next seats.items refl,
      taken_over (log_of state) c.loop-worker.logs.items c.push_reserved-in-loop-worker.new.self.items old rest w c.into_log.result _ i.1 next logs.items log,
      omega (arith, i.2, seats.capacity),
      omega (arith, i.3, logs.capacity),
      subst (All (IsHonestOver c.args.problem.now)) (sym logs.items) (All-push (IsHonestOver c.args.problem.now) c.loop-worker.logs.items c.into_log.result i.4 honest),
      All-tail (λ u. (state u.oracle).problem ≡ c.args.problem.now) w rest asks,
      logs.capacity ∙ i.6,
      pens_back c.loop-worker.pens.items c.put_back.new.pens.items old rest w _ i.7 next c.put_back.ensures.items,
      pens_room c.loop-worker.pens.items c.put_back.new.pens.items old rest w i.8 next c.put_back.ensures.items c.put_back.ensures.room,
      broken_back c.loop-worker.first c.either-first.result old rest w _ i.9 next c.either-first.ensures,
    )

-- there is room for those that are left
pub push_reserved-requires : goal.push_reserved-requires
push_reserved-requires g c =
    let left = ap length c.in-Some.ensures.steps.0 in
    let room = c.loop-worker.invariant.2 in
    let size = c.loop-worker.seats.ok.0 in
    omega arith

pub push_reserved-requires-in-loop-worker : goal.push_reserved-requires-in-loop-worker
push_reserved-requires-in-loop-worker g c =
    let left = ap length c.in-Some.ensures.steps.0 in
    let room = c.loop-worker.invariant.3 in
    let size = c.loop-worker.logs.ok.0 in
    omega arith

-- and for the pen, if there is one
pub put_back-requires : goal.put_back-requires
put_back-requires g c = pen_room c.loop-worker.pens.items c.loop-worker.worker-iterator.rest.items c.next.new.self.rest.items c.in-Some.worker c.loop-worker.invariant.8 c.in-Some.ensures.steps.0

-- none is left
pub returns-clause-seats : goal.returns-clause-seats
returns-clause-seats g c =
    let size = c.loop-worker.worker-iterator.rest.ok.0 in
    let none = c.in-None.ensures.steps.0 in
    all_taken seat_of c.loop-worker.seats.items c.loop-worker.worker-iterator.rest.items _ c.loop-worker.invariant.0 (omega arith)

pub returns-clause-logs : goal.returns-clause-logs
returns-clause-logs g c =
    let size = c.loop-worker.worker-iterator.rest.ok.0 in
    let none = c.in-None.ensures.steps.0 in
    all_taken (log_of g.O.Oracle.state) c.loop-worker.logs.items c.loop-worker.worker-iterator.rest.items _ c.loop-worker.invariant.1 (omega arith)

pub returns-clause-pens : goal.returns-clause-pens
returns-clause-pens g c =
    let size = c.loop-worker.worker-iterator.rest.ok.0 in
    let none = c.in-None.ensures.steps.0 in
    all_back c.loop-worker.pens.items c.loop-worker.worker-iterator.rest.items _ c.loop-worker.invariant.7 (omega arith)

pub returns-clause-broken : goal.returns-clause-broken
returns-clause-broken g c =
    let size = c.loop-worker.worker-iterator.rest.ok.0 in
    let none = c.in-None.ensures.steps.0 in
    first_left c.loop-worker.first c.loop-worker.worker-iterator.rest.items _ c.loop-worker.invariant.9 (omega arith)
