use Rattle.std.proofs.Common.{rules}
use Rattle.board.proofs.Calls.{worker_of-push}
use Rattle.board.proofs.board.Board.take.Goals as goal

-- the last entry is of this call
pub returns-clause-worker : goal.returns-clause-worker
returns-clause-worker g c = let turn = c.in-Taken.ensures.turn in worker_of-push _ _ turn.entry _ _ turn.mine turn.told.used_is turn.told.reply_is

-- the turn is the call
pub returns-clause-call : goal.returns-clause-call
returns-clause-call g c = search rules
