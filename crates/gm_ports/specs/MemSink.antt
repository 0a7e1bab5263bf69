-- A sink in memory.
use Rattle.std.specs.Prelude.{ℕ, ◌-◌, min, List, length}
use Rattle.gm_ports.specs.Schedule.{ScheduleState}

-- what it got, the most that one write takes, the most that it takes in all, and its calls
pub record MemSinkState : Type 0 where
  pub got : List ℕ
  pub per_write : ℕ
  pub room : ℕ
  pub writes : ScheduleState

-- how much of a piece it takes
abbrev pub taken_of : MemSinkState → List ℕ → ℕ
taken_of s piece = min (length piece) (min s.per_write (s.room - length s.got))
