-- The calls of one seat.
use Rattle.std.specs.Prelude.{ℕ, List, filter, ◌==◌}

-- the entries of one caller, in their order
abbrev pub calls_by : {E : Type 0} → (E → ℕ) → ℕ → List E → List E
calls_by caller who entries = filter (λ e. caller e == who) entries
