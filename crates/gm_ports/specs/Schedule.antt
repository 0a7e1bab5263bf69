-- Which calls of an object in memory fail, and how its calls and faults are counted.
use Rattle.std.specs.Prelude.{ℕ, ◌+◌, ◌-◌, ◌^◌, min, List, Contains}

-- one more, up to the greatest u64, which stands for all that come later
abbrev pub next_count : ℕ → ℕ
next_count n = min (n + 1) (2 ^ 64 - 1)

-- the numbers of the calls that fail, from 1, how many calls there were, and how many faults
pub record ScheduleState : Type 0 where
  pub failing : List ℕ
  pub calls : ℕ
  pub faults : ℕ

-- after a call that went well
abbrev pub after_call : ScheduleState → ScheduleState
after_call s = record s { calls = next_count s.calls }

-- after a call that failed
abbrev pub after_fault : ScheduleState → ScheduleState
after_fault s = record s { calls = next_count s.calls; faults = next_count s.faults }

-- the next call is one that fails
abbrev pub Fails : ScheduleState → Type 0
Fails s = Contains s.failing (next_count s.calls)
