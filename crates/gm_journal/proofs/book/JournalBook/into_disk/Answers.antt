use Rattle.std.proofs.Common.{subst}
use Rattle.gm_journal.specs.Books.{BookState, IsWhole}
use Rattle.gm_journal.proofs.TracedLemmas.{whole_by}
use Rattle.gm_journal.proofs.book.JournalBook.into_disk.Goals as goal

-- what a crash left since any moment has all that was acknowledged by then
pub returns-clause-whole : goal.returns-clause-whole
returns-clause-whole g c = λ told.
    subst (λ (b : BookState _). IsWhole (g.D.Disk.state c.self.inside.disk) b.opening b.history) c.self.view_is
    (whole_by (g.D.Disk.state c.self.inside.disk) c.self.inside.opening c.self.inside.history.items (g.met.D.Disk.lawful c.self.inside.disk)
    (c.self.invariant.0.gone_on.traced told))
