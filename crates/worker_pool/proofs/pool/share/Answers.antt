use Rattle.std.proofs.Common.{◌≡◌, ℕ, ◌<◌, length, drop, map, get_or, All, option_copied, is_some, refl, sym, ◌∙◌, ap, subst, arith}
use Rattle.std.proofs.lemmas.List.{length-map}
use Rattle.map_core.specs.declared.entry.Opening.{Opening}
use Rattle.map_core.specs.Opens.{opening_of}
use Rattle.worker_pool.specs.Pens.{all_some, first_some}
use Rattle.worker_pool.specs.Outcomes.{IsEnded}
use Rattle.worker_pool.specs.Workers.{IsNew, HasNewPen, HasWorked, AreOver, oracle_of, seat_of, pen_of, broken_of, log_of}
use Rattle.worker_pool.proofs.Crewed.{written, all_new, are_over}
use Rattle.worker_pool.proofs.Written.{some_seen}
use Rattle.worker_pool.proofs.Penned.{few_pens, all_new_pens, back_few, tells_pens}
use Rattle.worker_pool.proofs.pool.share.Goals as goal

-- no more pens than workers
pub hire-requires-clause-pens : goal.hire-requires-clause-pens
hire-requires-clause-pens g c = few_pens _ (option_copied c.args.journal) c.args.pens.now.items c.requires.pens

-- each worker has a fresh oracle and a new seat
pub work_all-requires-clause-new : goal.work_all-requires-clause-new
work_all-requires-clause-new g c κs within =
    let b = c.in_ok-board.board in
    let p = c.args.problem.now in
    let state = g.O.Oracle.state in
    let start = c.in_ok-board.ensures in
    subst (All (λ w. IsNew b p (state w.oracle) w.seat)) (sym c.as_mut_slice.ensures.value)
    (all_new (option_copied c.args.journal) b p state _ c.in_ok-board.seats.items start.seats (ap (λ (o : Opening). o.workers) start.opening) c.args.oracles.items c.in_ok-workers.workers.items c.requires.oracles c.in_ok-workers.ensures.oracles c.in_ok-workers.ensures.seats)

-- and a new pen, where there is a journal
pub work_all-requires-clause-pens : goal.work_all-requires-clause-pens
work_all-requires-clause-pens g c κs within =
    let p = c.args.problem.now in
    let j = option_copied c.args.journal in
    let ws = c.in_ok-workers.workers in
    let oracles = ap length c.in_ok-workers.ensures.oracles in
    let hired = length-map ws.items oracle_of in
    subst (All (λ w. HasNewPen j p w)) (sym c.as_mut_slice.ensures.value)
    (all_new_pens _ p j c.args.pens.now.items ws.items (length c.args.oracles.items) refl (sym hired ∙ oracles) refl c.requires.pens c.in_ok-workers.ensures.pens c.in_ok-workers.ensures.whole)

-- all workers come back, and their oracles are still of the problem
pub dismiss-broken-requires-clause-problem : goal.dismiss-broken-requires-clause-problem
dismiss-broken-requires-clause-problem g c =
    let state = g.O.Oracle.state in
    let p = c.args.problem.now in
    let ts = c.work_all.new.workers in
    let ws = c.in_ok-workers.workers in
    let done = c.work_all.ensures in
    let lent = ap length c.as_mut_slice.ensures.value in
    let same = done.same in
    let size : length ts ≡ ws.len = omega (arith, ws.ok.0) in
    let back = written ts (drop (length ts) ws.items) ws.len size in
    subst (All (λ w. (state w.oracle).problem ≡ p)) (sym back) (λ k d low. (done.each k d (omega arith)).over.worker.asks_of)

-- each of them is over, so all seats have ended
pub settle-requires-clause-over : goal.settle-requires-clause-over
settle-requires-clause-over g c =
    let b = c.in_ok-board.board in
    let p = c.args.problem.now in
    let j = option_copied c.args.journal in
    let state = g.O.Oracle.state in
    let ts = c.work_all.new.workers in
    let ws = c.in_ok-workers.workers in
    let seats = c.in_ok-board.seats.items in
    let start = c.in_ok-board.ensures in
    let done = c.work_all.ensures in
    let value = c.as_mut_slice.ensures.value in
    let lent = ap length value in
    let same = done.same in
    let size : length ts ≡ ws.len = omega (arith, ws.ok.0) in
    let back = written ts (drop (length ts) ws.items) ws.len size in
    let each : (k : ℕ) (d : _) → k < length ws.items → HasWorked j b p state (get_or ws.items k d) (get_or ts k d) = subst (λ l. (k : ℕ) (d : _) → k < length l → HasWorked j b p state (get_or l k d) (get_or ts k d)) value done.each in
    let seated = length-map ws.items seat_of in
    let given = ap length c.in_ok-workers.ensures.seats in
    let oracles = ap length c.in_ok-workers.ensures.oracles in
    let hired = length-map ws.items oracle_of in
    let count = start.seats.count_is in
    let some = c.requires.opening.some in
    subst (λ k. AreOver k b c.dismiss-broken.new.seats.items c.dismiss-broken.new.logs.items) (some_seen c.args.journal ∙ sym c.is_some.ensures)
    (are_over j b p state _ seats start.seats (ap (λ (o : Opening). o.workers) start.opening) ws.items ts c.dismiss-broken.new.seats.items c.dismiss-broken.new.logs.items (omega arith) (ap (λ (o : Opening). o.problem) start.opening)
    c.in_ok-workers.ensures.seats (same ∙ lent) each (c.dismiss-broken.ensures.seats ∙ ap (map seat_of) back) (c.dismiss-broken.ensures.logs ∙ ap (map (log_of state)) back) c.dismiss-broken.ensures.honest)

-- there is room for the pens that come back
pub dismiss-broken-requires-clause-pens : goal.dismiss-broken-requires-clause-pens
dismiss-broken-requires-clause-pens g c =
    let ts = c.work_all.new.workers in
    let ws = c.in_ok-workers.workers in
    let done = c.work_all.ensures in
    let value = c.as_mut_slice.ensures.value in
    let lent = ap length value in
    let same = done.same in
    let size : length ts ≡ ws.len = omega (arith, ws.ok.0) in
    let back = written ts (drop (length ts) ws.items) ws.len size in
    let few = back_few c.args.pens.now.items (length c.args.oracles.items) ws.items ts (same ∙ lent) c.in_ok-workers.ensures.pens (λ k d low.
    (subst (λ l. (k : ℕ) (d : _) → k < length l → HasWorked (option_copied c.args.journal) c.in_ok-board.board c.args.problem.now g.O.Oracle.state (get_or l k d) (get_or ts k d)) value done.each k d low).kept.pen) in
    let room = c.in_ok-workers.ensures.room.1 in
    let all = ap (λ l. length (all_some (map pen_of l))) back in
    let size = c.args.pens.now.ok.0 in
    let fits = c.args.pens.now.ok.1 in
    omega arith

-- what is closed began with this opening
pub returns-clause-ended : goal.returns-clause-ended
returns-clause-ended g c =
    let size : c.args.oracles.len ≡ length c.args.oracles.items = omega (arith, c.args.oracles.ok.0) in
    subst (λ o. IsEnded o (is_some (option_copied c.args.journal)) c.settle.result)
    (c.in_ok-board.ensures.opening ∙ ap (λ n. opening_of c.args.problem.now c.args.records n c.args.budget c.args.limit c.args.goal g.M.MapEngine.TOPS) (c.len-count.ensures ∙ size))
    (subst (λ k. IsEnded c.in_ok-board.board.opening k c.settle.result) (c.is_some.ensures ∙ sym (some_seen c.args.journal)) c.settle.ensures.ended)

-- and all that was appended is told
pub returns-clause-pens : goal.returns-clause-pens
returns-clause-pens g c =
    let b = c.in_ok-board.board in
    let p = c.args.problem.now in
    let j = option_copied c.args.journal in
    let state = g.O.Oracle.state in
    let ts = c.work_all.new.workers in
    let ws = c.in_ok-workers.workers in
    let done = c.work_all.ensures in
    let value = c.as_mut_slice.ensures.value in
    let lent = ap length value in
    let same = done.same in
    let size : length ts ≡ ws.len = omega (arith, ws.ok.0) in
    let back = written ts (drop (length ts) ws.items) ws.len size in
    let each : (k : ℕ) (d : _) → k < length ws.items → HasWorked j b p state (get_or ws.items k d) (get_or ts k d) = subst (λ l. (k : ℕ) (d : _) → k < length l → HasWorked j b p state (get_or l k d) (get_or ts k d)) value done.each in
    let oracles = ap length c.in_ok-workers.ensures.oracles in
    let hired = length-map ws.items oracle_of in
    let some = c.requires.opening.some in
    tells_pens _ b p state j c.args.pens.now.items c.dismiss-broken.new.pens.items ws.items ts (length c.args.oracles.items) c.dismiss-broken.new.seats.items c.settle.result.closing c.dismiss-broken.result some (sym hired ∙ oracles) (same ∙ lent) refl
    c.requires.pens c.in_ok-workers.ensures.pens each (c.dismiss-broken.ensures.pens ∙ ap (λ l. all_some (map pen_of l)) back) (c.dismiss-broken.ensures.broken ∙ ap (λ l. first_some (map broken_of l)) back)
    (c.dismiss-broken.ensures.seats ∙ ap (map seat_of) back) c.settle.ensures.calls
