use Rattle.std.proofs.Common.{◌≡◌, ℕ, Some, sym, ap, ◌∙◌, subst}
use Rattle.turn_lock.specs.Moves.{GoesOn, holding, after_turn}
use Rattle.turn_lock.specs.Seats.{IsTurn}
use Rattle.turn_lock.specs.Badges.{view_of, seat_view}
use Rattle.turn_lock.proofs.Badges.{has_view}
use Rattle.turn_lock.proofs.Turns.{turns}
use Rattle.turn_lock.proofs.lock.TurnLock.turn.Goals as goal

-- the three steps lead from the seat's view to the one with the book's new history
pub returns-clause-turn : goal.returns-clause-turn
returns-clause-turn g c =
    let book = g.B.Book in
    let start = c.args.self.now.opening in
    let number : ℕ = c.seat.inside.number in
    let lock = c.seat.inside.badge.table_id in
    let v = c.into_seat-place.result.me.0 in
    let ticket : ℕ = c.draw-ticket.result in
    let y = c.await_turn-book.result in
    let y' = c.apply-reply.new.self in
    let e = c.apply-reply.ensures.entry in
    let is_view : v ≡ view_of c.seat.inside.badge.views = has_view c.seat.inside.badge.views c.replace.result.views v (ap (λ b. b.views) c.replace.ensures.value) c.into_seat-place.ensures.2 in
    let opened : v.opening ≡ Some start = ap (λ u. u.opening) is_view ∙ (ap (λ s. s.opening) c.seat.view_is ∙ c.requires.seat.opening) in
    let drawn = ap (λ m. m.0) c.draw-ticket.ensures.drawn in
    let held = ap (λ m. m.0) c.await_turn-book.ensures.holds ∙ ap (λ u. holding u ticket (book.history y)) drawn in
    let gave = ap (λ m. m.0) c.give_back.ensures.gave ∙ ap (λ u. after_turn book.caller u (book.history y')) held in
    let is_after = ap view_of c.into_badge.ensures.2 ∙ gave in
    let on : GoesOn book.caller book.history book.opening v y = subst (λ u. GoesOn book.caller book.history book.opening u y) drawn c.await_turn-book.ensures.book in
    let t = turns book.caller book.legal book.history book.opening book.tells v ticket number lock c.into_badge.result.table_id start c.args.op c.apply-reply.result y y' e.0
    (ap (λ u. u.number) is_view ∙ c.seat.invariant.number_is) opened on e.1 e.2 e.3 c.apply-reply.ensures.opening c.apply-reply.ensures.legal c.apply-reply.ensures.short in
    let from = ap (seat_view lock number) is_view ∙ c.seat.view_is in
    let to = ap (seat_view c.into_badge.result.table_id number) (sym is_after) in
    subst (λ s. IsTurn book.caller book.legal book.tells start s c.args.op c.apply-reply.result (seat_view c.into_badge.result.table_id number (view_of c.into_badge.result.views))) from
    (subst (IsTurn book.caller book.legal book.tells start (seat_view lock number v) c.args.op c.apply-reply.result) to t)
