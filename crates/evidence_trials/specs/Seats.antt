-- The seat of a journal of one, from which appends are made.
use Rattle.std.specs.Prelude.{◌≡◌, Bool, true, false}
use Rattle.turn_lock.specs.Seats.{LockView, SeatView, IsSeatOf, made_at}
use Rattle.gm_journal.specs.Entries.{OpeningView, EntryView}
use Rattle.gm_journal.specs.Histories.{has_ended}

-- the one seat of the journal, which has not ended where it may append
pub record HasJournalSeat (j : LockView OpeningView) (may : Bool) (s : SeatView EntryView OpeningView) : Type 0 where
  pub of : IsSeatOf j s
  pub first : s.number ≡ 0
  pub made : s.made ≡ made_at 0 1
  pub one : j.opening.seats ≡ 1
  pub going : may ≡ true → has_ended s.mine ≡ false
