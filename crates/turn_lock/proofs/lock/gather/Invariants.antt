use Rattle.std.proofs.Common.{◌≡◌, [], ◌++◌, map, All}
use Rattle.turn_lock.specs.Moves.{with_notes}
use Rattle.turn_lock.specs.Closings.{note_of}
use Rattle.turn_lock.proofs.lock.gather.Given as goal

abbrev pub invariant-loop-seat : goal.invariant-loop-seat
invariant-loop-seat g l =
    (l.place.table_id ≡ l.initial.place.table_id) × (l.place.id ≡ l.initial.place.id)
    × (l.place.me ≡ (with_notes l.initial.place.me.0 l.place.me.0.joined, []))
    × (map note_of l.others.items ++ l.place.me.0.joined ≡ map note_of l.initial.others.items)
    × All (λ s. s.lock ≡ l.top.table_id) l.others.items

abbrev pub decreases-loop-seat : goal.decreases-loop-seat
decreases-loop-seat g l = goal.left-loop-seat g l
