use Rattle.std.proofs.Common.{◌≤◌, ℕ, false, List, sym, subst, arith}
use Rattle.std.specs.Vec.{vec_capacity}
use Rattle.gm_journal.specs.Entries.{EntryView}
use Rattle.gm_journal.specs.Books.{IsInOrder}
use Rattle.gm_journal.proofs.Orders.{opened_order}
use Rattle.gm_journal.proofs.book.JournalBook.open.Goals as goal

-- it has no entry
pub invariant_of-result : goal.invariant_of-result
invariant_of-result g c = (
  subst (λ (es : List EntryView). IsInOrder (g.D.Disk.state c.args.disk) c.args.held c.args.gate false c.args.opening es (vec_capacity c.in-Ok.history)) (sym c.in-Ok.ensures.items)
      (opened_order (g.D.Disk.state c.args.disk) c.args.held c.args.gate c.args.opening (vec_capacity c.in-Ok.history) c.requires.small (g.met.D.Disk.lawful c.args.disk) c.requires.kept c.requires.held c.requires.disk c.requires.gate
      (subst (λ (n : ℕ). c.args.opening.seats ≤ n) (sym c.in-Ok.ensures.exact) (subst (λ (n : ℕ). n ≤ c.args.seats) c.requires.seats (omega arith)))),
  c.requires.seats,
)
