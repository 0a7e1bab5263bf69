-- The values of variables, against the literals that are true.
use Rattle.std.specs.Prelude.{ℕ, ◌+◌, ◌<◌, List, true, false, ℤ, pos, negsuc, Bool, Option, Some, None, slice_index_or}
use Rattle.sat_base.specs.Units.{IsValue}
use Rattle.trail_book.specs.declared.value.Value.{Value}
use Rattle.trail_book.specs.declared.value.Value.TheVariants.{Unset, True, False}

-- the value of a variable that makes the literal true
abbrev pub value_by : ℤ → Value
value_by (pos n) = True
value_by (negsuc n) = False

-- what it makes of the variable's positive literal
abbrev pub truth_of : Value → Option Bool
truth_of Unset = None
truth_of True = Some true
truth_of False = Some false

-- the table has the value of each variable up to this one, that of variable 1 first
abbrev pub AreValues : ℕ → List Value → List ℤ → Type 0
AreValues vars values trues = (index : ℕ) → index < vars → IsValue trues (pos (index + 1)) (truth_of (slice_index_or values index Unset))
