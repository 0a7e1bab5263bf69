use Rattle.std.proofs.Common.{arith}
use Rattle.trail_book.proofs.SlotLemmas.{slots_room}
use Rattle.trail_book.proofs.trail.Trail.len.Goals as goal

-- no variable stands twice, so there are at most as many slots as variables
pub overflow_cast-result : goal.overflow_cast-result
overflow_cast-result c =
    grind (arith, c.len.ensures, slots_room c.self.inside.vars c.self.inside.slots.items c.self.invariant.trail, c.self.invariant.small)
