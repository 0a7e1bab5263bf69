use Rattle.std.proofs.Common.{ap, ◌∙◌, [], ◌∷◌, None, subst}
use Rattle.turn_lock.specs.Moves.{GoesOn, holding}
use Rattle.turn_lock.proofs.turn.await_turn.Goals as goal

-- no look so far changed the seat
pub look-requires : goal.look-requires
look-requires g c = record {
  table = (c.loop.invariant.0 ∙ c.requires.table.0, c.requires.table.1);
  waits = (ap (λ m. m.0.stage) c.loop.invariant.2 ∙ c.requires.waits.0, ap (λ m. m.1) c.loop.invariant.2 ∙ c.requires.waits.1);
}

pub returns-in-Some-look : goal.returns-in-Some-look
returns-in-Some-look g c =
    let told = c.in-Some-look.ensures in
    record {
      same = (told.same.0 ∙ c.loop.invariant.0, told.same.1 ∙ c.loop.invariant.1);
      holds = told.holds ∙ ap (λ m. (holding m.0 c.args.ticket (g.B.Book.history c.in-Some-look.book), (0, None) ∷ [])) c.loop.invariant.2;
      book = subst (λ m. GoesOn g.B.Book.caller g.B.Book.history g.B.Book.opening m.0 c.in-Some-look.book) c.loop.invariant.2 told.book;
      short = told.short;
    }
