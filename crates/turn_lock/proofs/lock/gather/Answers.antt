use Rattle.std.proofs.Common.{rules, ◌≡◌, ap, sym, ◌∙◌, [], ◌∷◌, refl}
use Rattle.turn_lock.specs.Moves.{with_notes, taken_in, note_at}
use Rattle.turn_lock.specs.Closings.{note_of}
use Rattle.turn_lock.specs.Badges.{view_of, seat_view}
use Rattle.turn_lock.proofs.Badges.{has_view}
use Rattle.turn_lock.proofs.Steps.{may_join}
use Rattle.turn_lock.proofs.Gathered.{all_before, all_last, joined_one}
use Rattle.turn_lock.proofs.lock.gather.Goals as goal

-- the other seat is in no turn, and took in no other
pub join_seat-requires : goal.join_seat-requires
join_seat-requires g c =
    let is_view = has_view c.seat.inside.badge.views c.seat.inside.badge.views c.into_seat.result.me.0 refl c.into_seat.ensures.2 in
    let of_this = all_last (λ s. s.lock ≡ c.args.top.now.table_id) c.pop.new.self.items c.in-Some.seat c.loop-seat.others.items c.in-Some.ensures.items c.loop-seat.invariant.4 in (
      search rules,
      c.into_seat.ensures.0 ∙ (ap (λ s. s.lock) c.seat.view_is ∙ of_this),
      c.into_seat.ensures.3,
      search rules,
      may_join _ _ _ _ _ _ _ _ _ (ap (λ m. m.0.stage) c.loop-seat.invariant.2 ∙ c.requires.first.1) (ap (λ u. u.stage) is_view ∙ c.seat.invariant.idle) (ap (λ u. u.joined) is_view ∙ c.seat.invariant.alone),
    )

-- the note of the seat that was joined stands in front of the others
pub loop-seat-preserved : goal.loop-seat-preserved
loop-seat-preserved g c =
    let v = c.args.place.now.me.0 in
    let w = c.into_seat.result.me.0 in
    let is_view = has_view c.seat.inside.badge.views c.seat.inside.badge.views w refl c.into_seat.ensures.2 in
    let me = c.join_seat.ensures.2 ∙ ap (λ m. (taken_in m.0 w, m.1)) c.loop-seat.invariant.2 in
    let notes = ap (λ m. m.0.joined) me in
    let same : note_at w ≡ note_of c.in-Some.seat = ap note_at is_view ∙ (ap (λ n. note_of (seat_view c.seat.inside.badge.table_id n (view_of c.seat.inside.badge.views))) c.seat.invariant.number_is ∙ ap note_of c.seat.view_is) in (
      search rules,
      search rules,
      me ∙ ap (λ l. (with_notes v l, [])) (sym notes),
      joined_one c.pop.new.self.items c.args.others.now.items c.loop-seat.others.items c.in-Some.seat _ _ c.in-Some.ensures.items c.loop-seat.invariant.3 (notes ∙ ap (λ n. n ∷ c.loop-seat.place.me.0.joined) same),
      all_before (λ s. s.lock ≡ c.args.top.now.table_id) c.pop.new.self.items c.in-Some.seat c.loop-seat.others.items c.in-Some.ensures.items c.loop-seat.invariant.4,
    )
