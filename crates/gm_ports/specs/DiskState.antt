-- What a disk tells of itself, what a crash may leave of it, and what its calls do to both.
use Rattle.std.specs.Prelude.{◌≡◌, ◌⊎◌, ◌↔◌, ℕ, ◌+◌, ◌≤◌, List, ◌++◌, length, take, drop, Option, Some, IfSome, IsSome}

-- One opened disk. `reads` is `None` where it is not told. A disk that doesn't know what a crash may leave says that it may
-- be anything.
pub record DiskState : Type 1 where
  -- the bytes that reads give
  pub reads : Option (List ℕ)
  -- the bytes that a crash at this moment may leave
  pub may_leave : List ℕ → Type 0
  -- the moment, as a number that never falls
  pub moment : ℕ
  -- the bytes that a crash at some moment from that one on may have left, within a call or between two
  pub left_since : ℕ → List ℕ → Type 0
  -- the bytes that reads would give of the disk of a name, once it were opened
  pub held : List ℕ → Option (List ℕ)
  -- the name under which it was opened, where that is told
  pub name : Option (List ℕ)
  pub faults : ℕ

-- what holds of a disk at all times
pub record IsLawful (s : DiskState) : Type 0 where
  -- a crash may leave the disk as it reads
  pub as_read : IfSome s.reads s.may_leave
  -- this moment is one of those since an earlier one, and the only one since itself
  pub counts_now : (t : ℕ) (c : List ℕ) → t ≤ s.moment → s.may_leave c → s.left_since t c
  pub only_now : (c : List ℕ) → s.left_since s.moment c → s.may_leave c
  -- the moments since a later one are among those since an earlier one
  pub ordered : (t u : ℕ) (c : List ℕ) → t ≤ u → s.left_since u c → s.left_since t c
  -- reads give what the disk of its name holds
  pub named : IfSome s.name (λ name. s.held name ≡ s.reads)

-- the text with the piece from that place on, over what was there and past the end
abbrev pub written : List ℕ → ℕ → List ℕ → List ℕ
written text at piece = take at text ++ piece ++ drop (at + length piece) text

-- What a crash may make of a text while n bytes are written at a place, or later before a sync: any bytes in the range, and
-- any and any number past the old end. All other bytes are as they were
pub record Torn (at n : ℕ) (old new : List ℕ) : Type 0 where
  pub no_shorter : length old ≤ length new
  pub before : take at (take (length old) new) ≡ take at old
  pub after : drop (at + n) (take (length old) new) ≡ drop (at + n) old

-- a crash leaves this text and no other
abbrev pub Only : List ℕ → (List ℕ → Type 0) → Type 0
Only text outcomes = (c : List ℕ) → outcomes c → c ≡ text

-- Time goes on over a call: what a crash since a moment may have left is what it may have left before the call, and what
-- it may leave now
pub record Elapses (old new : DiskState) : Type 0 where
  pub later : old.moment ≤ new.moment
  pub nothing_else : (t : ℕ) (c : List ℕ) → t ≤ old.moment → new.left_since t c → old.left_since t c ⊎ new.may_leave c
  pub keeps : (t : ℕ) (c : List ℕ) → t ≤ old.moment → old.left_since t c → new.left_since t c

-- a disk that tells goes on telling, and one that does not tells nothing new
abbrev pub TellsStill : DiskState → DiskState → Type 0
TellsStill old new = IsSome new.reads ↔ IsSome old.reads

-- a disk that tells what it reads as tells that it was opened under this name
abbrev pub IsOpenAs : DiskState → List ℕ → Type 0
IsOpenAs disk name = IfSome disk.reads (λ text. disk.name ≡ Some name)

-- a call that writes nothing: reads give what they gave, and no crash leaves what it could not leave before
pub record Looks (old new : DiskState) : Type 0 where
  pub reads : new.reads ≡ old.reads
  pub crash : (c : List ℕ) → new.may_leave c → old.may_leave c
  pub time : Elapses old new
  pub name : new.name ≡ old.name

-- a disk that could not be opened: nothing was written, and each name holds what it held
pub record IsUnopened (old new : DiskState) : Type 0 where
  pub looks : Looks old new
  pub held : (name : List ℕ) → new.held name ≡ old.held name

-- a write of n bytes at a place, whatever it answers
pub record Writes (at n : ℕ) (old new : DiskState) : Type 0 where
  pub tells : TellsStill old new
  pub crash : (c : List ℕ) → new.may_leave c → (d : List ℕ) × old.may_leave d × Torn at n d c
  pub time : Elapses old new
  pub name : new.name ≡ old.name

-- A crash at each moment since `old` leaves bytes that have P
pub record AtEachMoment (old new : DiskState) (P : List ℕ → Type 0) : Type 0 where
  pub later : old.moment ≤ new.moment
  pub each : (c : List ℕ) → new.left_since old.moment c → P c
  -- for a run of calls that began before `old`
  pub before : (t : ℕ) (c : List ℕ) → t ≤ old.moment → new.left_since t c → old.left_since t c ⊎ P c
