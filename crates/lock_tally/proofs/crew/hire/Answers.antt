use Rattle.std.proofs.Common.{◌∙◌}
use Rattle.lock_tally.proofs.Worked.{are_hired}
use Rattle.lock_tally.proofs.crew.hire.Goals as goal

-- the lock was opened for as many seats as the tally is for
pub returns : goal.returns
returns c = are_hired c.in-Ok.lock c.args.seats c.args.turns c.in-Ok.list.items c.in_ok-workers.workers.items (c.in-Ok.ensures.opening ∙ c.in_ok-tally.ensures.seats) c.in-Ok.ensures.seats c.in_ok-workers.ensures.seats c.in_ok-workers.ensures.ready
