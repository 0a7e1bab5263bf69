use Rattle.std.proofs.Common.{rules, ◌≡◌, ℕ, ◌+◌, [], ◌∷◌, Some, sym, ap, ◌∙◌, subst}
use mathlib.Core.Option.{none}
use Rattle.atomic_table.specs.Table.{Allows, step, rest}
use Rattle.turn_lock.specs.Rule.{Kept}
use Rattle.turn_lock.specs.Moves.{passed}
use Rattle.turn_lock.proofs.Steps.{may_pass}
use Rattle.turn_lock.proofs.turn.give_back.Goals as goal

pub store-requires : goal.store-requires
store-requires g c =
    let v = c.args.place.now.me.0 in
    let key = c.args.top.now.key.value in
    let slots : ℕ = c.args.top.now.table_id.slots in
    let is : c.exchange-left.new.seat.me ≡ (v, (0, Some c.args.book) ∷ []) = c.exchange-left.ensures.3 ∙ ap (λ l. (v, (0, Some c.args.book) ∷ rest l)) c.requires.holds.1 in
    let e = c.requires.entry in (
      search rules,
      search rules,
      subst (λ m. Allows (Kept g.B.Book.caller g.B.Book.legal g.B.Book.history g.B.Book.opening (g.B.Book.opening key)) slots c.exchange-left.new.seat.id m 1 (λ _. c.args.ticket + 1)
          (λ _. passed g.B.Book.caller g.B.Book.history (step slots 1 (c.args.ticket + 1) 0 none) m (c.args.ticket + 1))) (sym is)
          (may_pass _ _ _ _ _ _ _ v c.args.ticket c.args.book e.0 c.requires.holds.0 e.1 e.2 c.requires.book.0 c.requires.book.1 c.requires.book.2),
    )
