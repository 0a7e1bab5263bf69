use Rattle.std.proofs.Common.{◌≡◌, sym, ap, ◌∙◌, subst}
use Rattle.std.proofs.lemmas.Option.{none-some, same_Some}
use Rattle.turn_lock.specs.Seats.{HasAll}
use Rattle.turn_lock.proofs.Ended.{ends_with}
use Rattle.turn_lock.proofs.lock.TurnLock.close.Goals as goal

-- what the closed table tells: the slot has a book
pub unreachable-requires : goal.unreachable-requires
unreachable-requires g c =
    let book = g.B.Book in
    let badge = c.badge.inside.badge in
    let e = ends_with book.caller book.legal book.history book.opening (book.opening c.self.inside.table.shared.key.value) c.args.self badge.table_id c.args.seats.items c.remove.result c.remove.new.self.items badge.views c.into_seat-place.result.me.0 c.gather.new.place.me
    c.badge.inside.number c.gather.new.place.id _ _ c.take-slot.result c.requires c.remove.ensures.value c.remove.ensures.items c.badge.view_is c.badge.invariant.number_is c.badge.invariant.idle c.into_seat-place.ensures.2 c.gather.ensures.joined c.close_with-closed.ensures.values.2 c.take-slot.ensures.value in
    absurd (none-some _ (sym c.in-None.is ∙ e.1))

-- and it is this one
pub returns : goal.returns
returns g c =
    let book = g.B.Book in
    let badge = c.badge.inside.badge in
    let start = book.opening c.self.inside.table.shared.key.value in
    let e = ends_with book.caller book.legal book.history book.opening start c.args.self badge.table_id c.args.seats.items c.remove.result c.remove.new.self.items badge.views c.into_seat-place.result.me.0 c.gather.new.place.me
    c.badge.inside.number c.gather.new.place.id _ _ c.take-slot.result c.requires c.remove.ensures.value c.remove.ensures.items c.badge.view_is c.badge.invariant.number_is c.badge.invariant.idle c.into_seat-place.ensures.2 c.gather.ensures.joined c.close_with-closed.ensures.values.2 c.take-slot.ensures.value in
    let is_book = same_Some e.0 c.in-Some.book (sym e.1 ∙ c.in-Some.is) in
    let same = ap (λ l. l.opening) c.self.view_is in
    record {
      opening = subst (λ y. book.opening y ≡ c.args.self.opening) is_book (e.2 ∙ same);
      history = subst (λ o. HasAll book.caller book.legal o c.args.seats.items (book.history c.in-Some.book)) same (subst (λ y. HasAll book.caller book.legal start c.args.seats.items (book.history y)) is_book e.3);
    }
