use Rattle.std.proofs.Common.{slice_index_or, subst, option_copied}
use denote.Param.Send.{sendable}
use Rattle.std.proofs.Crossing.{crosses}
use Rattle.board.proofs.Sharing.{board_sync}
use Rattle.worker_pool.specs.Workers.{HasWorked}
use Rattle.worker_pool.proofs.crew.work_all.Goals as goal

-- each call got the worker at its place, and left the one that is there now
pub returns-clause-each : goal.returns-clause-each
returns-clause-each g c i d low = let h = (c.for_each_mut.ensures i d low).1 in
    subst (λ z. HasWorked (option_copied c.args.journal) c.args.board.now c.args.problem.now g.O.Oracle.state z (slice_index_or c.for_each_mut.new.s i d)) h.argument_is
    (subst (λ z. HasWorked (option_copied c.args.journal) c.args.board.now c.args.problem.now g.O.Oracle.state h.argument.now z) h.left h.call)

-- the map's engine may go to any thread, and so the board may be shared
pub is_shared-requires-sync-T : goal.is_shared-requires-sync-T
is_shared-requires-sync-T g c κs within =
    let board = board_sync _ g.M.MapEngine c.type_bounds.send-M in
    search (board, sendable, crosses) depth 20
