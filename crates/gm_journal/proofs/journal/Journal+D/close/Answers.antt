use Rattle.std.proofs.Common.{◌∙◌, ap, subst}
use Rattle.turn_lock.specs.Seats.{LockView, HasAll}
use Rattle.gm_journal.specs.Entries.{OpeningView, who_of}
use Rattle.gm_journal.specs.Histories.{IsLegal}
use Rattle.gm_journal.proofs.Orders.{is_left}
use Rattle.gm_journal.proofs.journal.Journal+D.close.Goals as goal

-- the book has the history that the seats made
pub returns-in-Closed : goal.returns-in-Closed
returns-in-Closed g c =
    let book = c.in-Closed.book in
    let opening = c.in-Closed.ensures.opening ∙ ap (λ (b : LockView OpeningView). b.opening) c.self.view_is in
    let has = subst (λ (b : LockView OpeningView). HasAll who_of IsLegal b.opening c.args.seats.items book.history) c.self.view_is c.in-Closed.ensures.history in
    is_left (g.D.Disk.state c.into_disk.result) c.args.self.opening book.opening c.args.seats.items book.history book.gate opening has c.into_disk.ensures.kept c.into_disk.ensures.count
    c.into_disk.ensures.gone_on c.into_disk.ensures.whole
