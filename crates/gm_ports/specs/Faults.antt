-- Faults have a cause: each is counted, and a call fails only where its count rose.
use Rattle.std.specs.Prelude.{◌≡◌, ℕ, ◌+◌, ◌-◌, ◌^◌, ◌≤◌, ◌<◌, min, List, length, Result, IfOk, OnErr, OnOk}

-- the count rose, or stands at the greatest u64
abbrev pub Rose : ℕ → ℕ → Type 0
Rose before now = min (before + 1) (2 ^ 64 - 1) ≤ now

-- a count over a call: it never falls, is a u64, rose where the call failed, and stayed where it did not
pub record HasCause {T E : Type 0} (before now : ℕ) (result : Result T E) : Type 0 where
  pub never_falls : before ≤ now
  pub bounded : now ≤ 2 ^ 64 - 1
  pub failed : OnErr result (Rose before now)
  pub quiet : OnOk result (now ≡ before)

-- the same over a write, where to take nothing of a piece that is not empty is a fault too
pub record WriteHasCause {E : Type 0} (before now : ℕ) (piece : List ℕ) (result : Result ℕ E) : Type 0 where
  pub never_falls : before ≤ now
  pub bounded : now ≤ 2 ^ 64 - 1
  pub failed : OnErr result (Rose before now)
  pub took_nothing : IfOk result (λ n. n ≡ 0 → 0 < length piece → Rose before now)
  pub quiet : IfOk result (λ n. 0 < n → now ≡ before)
  pub quiet_on_nothing : length piece ≡ 0 → OnOk result (now ≡ before)
