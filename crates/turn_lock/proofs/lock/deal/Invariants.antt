use Rattle.std.proofs.Common.{◌≡◌, ◌<◌, ◌+◌, ℕ, [], length, slice_index_or, vec_capacity}
use Rattle.turn_lock.specs.Moves.{made_view}
use Rattle.turn_lock.specs.Seats.{SeatView, new_seat}
use Rattle.turn_lock.proofs.lock.deal.Given as goal

abbrev pub invariant-loop-number : goal.invariant-loop-number
invariant-loop-number g l =
    (l.place.table_id ≡ l.initial.place.table_id) × (l.place.id ≡ l.initial.place.id)
    × (l.place.me ≡ (made_view (g.B.Book.opening l.top.key.value) l.number, []))
    × (length l.list.items + 1 ≡ l.number)
    × ((k : ℕ) (d : SeatView g.row.B-Entry.Denot g.row.B-Opening.Denot) → k < length l.list.items → slice_index_or l.list.items k d ≡ new_seat l.top.table_id (g.B.Book.opening l.top.key.value) 0 (k + 1))
    × (vec_capacity l.list ≡ vec_capacity l.initial.list)
