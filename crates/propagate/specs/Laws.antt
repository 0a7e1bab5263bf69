-- A law of going back.
use Rattle.std.specs.Prelude.{◌≡◌, ℕ, length, min}
use Rattle.clause_store.specs.Clauses.{Clauses}
use Rattle.trail_book.specs.Trail.{Trail, keep, IsTrail}
use Rattle.propagate.specs.Watches.{IsUnparked, IsKept}

-- where nothing is parked, what is kept of the watches is so of what a trail has left that goes back by itself
abbrev pub BackKeeps : Type 0
BackKeeps =
    (store : Clauses) (old new : Trail) (level : ℕ)
    → IsUnparked store
    → IsTrail old.vars old.entries
    → new.entries ≡ keep level old.entries
    → new.vars ≡ old.vars
    → new.done ≡ min old.done (length new.entries)
    → IsKept store old
    → IsKept store new
