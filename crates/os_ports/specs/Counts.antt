-- What a contract sees of an adapter over the system: its counts of the calls that did not work.
use Rattle.std.specs.Prelude.{ℕ}

-- the count of a standard stream, or of a file as a disk
pub record Faults : Type 0 where
  pub faults : ℕ

-- the counts of the system's files
pub record FileFaults : Type 0 where
  pub read_faults : ℕ
  pub write_faults : ℕ
