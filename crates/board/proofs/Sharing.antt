-- A board may be shared among threads if its engine may go to any of them.
use denote.RattleType.{RattleType}
use denote.Param.Send.{IsSend, IsSync, view_send, view_sync}
use denote.Param.SendFields.{declared_send, declared_sync, as_row_send, as_row_sync}
use Rattle.evidence_rec.specs.declared.engine.MapEngine.{Ghosts}
use Rattle.map_core.specs.contracts.calls.MapCore as core
use Rattle.map_core.proofs.Sending.{core_send}
use Rattle.turn_lock.specs.contracts.lock.TurnLock as lock
use Rattle.turn_lock.proofs.lock.TurnLock.TheSendSync.{the_sync}
use Rattle.map_core.specs.contracts.entry.Entry as entry
use Rattle.map_core.specs.contracts.entry.Opening as opening
use Rattle.board.specs.contracts.book.Op as op
use Rattle.board.specs.contracts.book.Answer as answer
use Rattle.board.specs.contracts.book.CoreBookBook.TheImpl as impl
use Rattle.board.specs.contracts.book.CoreBook as book
use Rattle.board.specs.contracts.book.CoreBook.TheInside as inside_book
use Rattle.board.specs.contracts.board.Board as board
use Rattle.board.specs.contracts.board.Board.TheInside as inside_board

module _ (M : RattleType) (g : Ghosts M.Denot) (s : IsSend M) where
  book_send : IsSend (book.the_row M g)
  book_send = view_send _ _ _ _ _ (declared_send (inside_book.the_type M g) (as_row_send (core.the_field M g) (core_send M g s), tt))

  pub board_sync : IsSync (board.the_row M g)
  board_sync =
      let calls = impl.ghosts M g impl.no_dict in
      view_sync _ _ _ _ _
      (declared_sync (inside_board.the_type M g) (
        as_row_sync (lock.the_field (book.the_row M g) op.the_row answer.the_row entry.the_row opening.the_row calls)
            (the_sync (book.the_row M g) op.the_row answer.the_row entry.the_row opening.the_row calls book_send),
        tt,
      ))
