-- How many literals a clause has and its two flags, in one number of 32 bits: the lowest bit tells that it is live, the next
-- one that it is watched, and the others count the literals.
use Rattle.std.specs.Prelude.{ℕ, ◌-◌, ◌/◌, ◌%◌, ◌^◌, ◌==◌, Bool}
use Rattle.clause_store.specs.declared.shape.Shape.{Shape}

abbrev pub literals_in : Shape → ℕ
literals_in shape = shape.bits / 4

abbrev pub is_live : Shape → Bool
is_live shape = shape.bits % 2 == 1

abbrev pub is_watched : Shape → Bool
is_watched shape = shape.bits / 2 % 2 == 1

-- the most literals of one clause that the other 30 bits can count
abbrev pub most_literals : ℕ
most_literals = 2 ^ 30 - 1
