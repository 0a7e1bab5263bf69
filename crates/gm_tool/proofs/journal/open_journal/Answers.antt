use Rattle.std.proofs.Common.{inl, inr, refl}
use Rattle.std.proofs.lemmas.Result.{IfErr-weaker}
use Rattle.gm_tool.proofs.JournalLemmas.{named-by}
use Rattle.gm_tool.proofs.journal.open_journal.Goals as goal

-- what is read of it stood there
pub returns-in-Ok-clause-opened : goal.returns-in-Ok-clause-opened
returns-in-Ok-clause-opened g c =
    let old = g.D.Disk.state c.args.disk.now in
    c.read_journal.ensures.opened (old.held c.args.name.now) c.args.name.now old.faults c.in-Ok.ensures.opened c.in-Ok.ensures.cause.quiet
    (named-by g.D.Disk.state _ (old.held c.args.name.now) c.args.name.now c.in-Ok.ensures.opened c.in-Ok.ensures.named)

pub returns-in-Ok-clause-stopped : goal.returns-in-Ok-clause-stopped
returns-in-Ok-clause-stopped g c =
    let old = g.D.Disk.state c.args.disk.now in
    IfErr-weaker c.read_journal.result _ _ (λ e stops. inr stops) (c.read_journal.ensures.stopped (old.held c.args.name.now) old.faults c.in-Ok.ensures.opened c.in-Ok.ensures.cause.quiet)

-- a disk that could not be opened is as it was
pub returns-in-Err-clause-stopped : goal.returns-in-Err-clause-stopped
returns-in-Err-clause-stopped g c = inl (refl, c.in-Err.ensures.cause.failed, c.in-Err.ensures.unopened)
