-- What closing a lock answers.
use Rattle.turn_lock.specs.declared.view.Note.{Note}
use Rattle.turn_lock.specs.Seats.{SeatView}
use Rattle.turn_lock.specs.declared.lock.LockClosing.{LockClosing}
use Rattle.turn_lock.specs.declared.lock.LockClosing.TheVariants.{Closed, Held}

-- what is kept of a seat that is joined into the first
abbrev pub note_of : {E O : Type 0} → SeatView E O → Note E O
note_of s = record { number = s.number; seen = s.seen; mine = s.mine; opening = s.opening }

-- the lock was closed, and P holds of the book. Closing needs no memory, so that it is held is no answer
abbrev pub IfClosed : {B Op Reply E O : Type 0} → LockClosing B Op Reply E O → (B → Type 0) → Type 0
IfClosed (Closed y) P = P y
IfClosed (Held lock seats) P = ⊥
