-- Sets that are lent.
use Rattle.std.specs.Prelude.{ℕ, List, map}
use Rattle.std.specs.Borrow.{Bor}

-- the sets that these references point at
abbrev pub lists_of : List (Bor (List ℕ)) → List (List ℕ)
lists_of sets = map (λ set. set.now) sets
