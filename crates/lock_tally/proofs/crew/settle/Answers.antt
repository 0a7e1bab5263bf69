use Rattle.lock_tally.proofs.Crewed.{are_all, has_turns, are_replies}
use Rattle.lock_tally.proofs.crew.settle.Goals as goal

-- the seats of workers that are done are all seats of the lock, in their order
pub close-requires : goal.close-requires
close-requires c = are_all c.args.lock c.args.seats c.args.turns c.args.workers.items c.requires.done c.in_ok-list.list.items c.requires.seats c.in_ok-list.ensures.seats

-- so the history has what each of them knows to be its own, and nothing else
pub returns-clause-turns : goal.returns-clause-turns
returns-clause-turns c = has_turns c.args.lock c.args.seats c.args.turns c.args.workers.items c.requires.done c.in_ok-list.list.items c.in-Closed.tally.entries c.in_ok-list.ensures.seats c.in-Closed.ensures.history

pub returns-clause-replies : goal.returns-clause-replies
returns-clause-replies c =
    are_replies c.args.lock c.args.seats c.args.turns c.args.workers.items c.requires.done c.in_ok-list.list.items c.in-Closed.tally.entries _ c.in_ok-list.ensures.seats c.in_ok-list.ensures.replies c.in-Closed.ensures.history
