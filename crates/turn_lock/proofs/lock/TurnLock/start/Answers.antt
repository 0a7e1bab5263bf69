use Rattle.std.proofs.Common.{ap, sym, ◌∙◌, [], ◌∷◌, ◌++◌, Some, subst}
use Rattle.atomic_table.specs.Table as table
use Rattle.turn_lock.specs.Rule.{Kept}
use Rattle.turn_lock.specs.Moves.{first_view}
use Rattle.turn_lock.specs.Badges.{view_of}
use Rattle.turn_lock.proofs.Steps.{opens}
use Rattle.turn_lock.proofs.Gathered.{new_all}
use Rattle.turn_lock.proofs.lock.TurnLock.start.Goals as goal

-- the rule holds of a table with one seat and a book without entries
pub new-requires : goal.new-requires
new-requires g c =
    let book = g.B.Book in
    let start = book.opening c.of-about.result.value in
    let items = c.push_reserved.ensures.items ∙ ap (λ l. l ++ Some c.args.book ∷ []) (c.in-Ok-with_capacity.ensures.items) in
    subst (λ xs. Kept book.caller book.legal book.history book.opening start (table.opening (0 ∷ 0 ∷ []) xs (first_view start))) (sym items)
    (opens book.caller book.legal book.history book.opening start c.args.book c.requires.empty (ap book.opening (sym c.of-about.ensures)) (subst (λ b. book.legal (book.opening b) []) (sym c.of-about.ensures) c.requires.legal))

-- the first seat is the table's own, and the others were dealt by it
pub returns-in-Ok-insert-clause-seats : goal.returns-in-Ok-insert-clause-seats
returns-in-Ok-insert-clause-seats g c =
    let a = c.in-Ok-new.ensures.ok in
    let f = c.deal.ensures in
    let first = ap view_of c.into_badge-badge.ensures.2 ∙ ap (λ m. m.0) f.first in
    new_all c.in-Ok-new.table.shared.table_id c.into_badge-badge.result.table_id (g.B.Book.opening c.in-Ok-new.table.shared.key.value) c.args.seats (view_of c.into_badge-badge.result.views) c.deal.new.list.items c.insert.new.self.items
    c.in-Ok-insert.ensures.items (c.into_badge-badge.ensures.0 ∙ (f.same.0 ∙ a.2)) first f.others.0 f.others.1
