-- What a `Files` tells of itself, and what its calls leave.
use Rattle.std.specs.Prelude.{◌≡◌, ℕ, List, Option, Some, None, IfSome}
use Rattle.gm_ports.specs.Told.{TellsNoMore}

-- The names, the opened input and output, and the two counts of faults. A part that is `None` is not told. Of a name
-- `Some None` tells that no such file is there, and of the output that none is opened.
pub record FilesState : Type 0 where
  -- the bytes that are held under a name
  pub held : List ℕ → Option (Option (List ℕ))
  -- what of the opened input was not read yet
  pub unread : Option (List ℕ)
  -- the name that the output was opened under
  pub output : Option (Option (List ℕ))
  -- what was written to the output that was opened last
  pub written : Option (List ℕ)
  pub read_faults : ℕ
  pub write_faults : ℕ

-- the bytes of a name, where it is told that there is such a file
abbrev pub told_bytes : Option (Option (List ℕ)) → Option (List ℕ)
told_bytes None = None
told_bytes (Some file) = file

-- a call that reads leaves the names, all that belongs to the output, and the count of write faults
pub record ReadingLeaves (old new : FilesState) : Type 0 where
  pub names : new.held ≡ old.held
  pub output : new.output ≡ old.output
  pub written : new.written ≡ old.written
  pub write_faults : new.write_faults ≡ old.write_faults

-- what is not told before a call is not told after it
pub record TellsNothingNew (old new : FilesState) : Type 0 where
  pub names : (name : List ℕ) → TellsNoMore (old.held name) (new.held name)
  pub unread : TellsNoMore old.unread new.unread
  pub output : TellsNoMore old.output new.output
  pub written : TellsNoMore old.written new.written

-- what is told still is as it was told before
abbrev pub StaysAsTold : {A : Type 0} → Option A → Option A → Type 0
StaysAsTold old new = IfSome new (λ now. old ≡ Some now)

-- a call that writes leaves the count of read faults, and each name but those it may change, as far as it is told still
pub record WritingLeaves (MayChange : List ℕ → Type 0) (old new : FilesState) : Type 0 where
  pub names : (name : List ℕ) → ¬ MayChange name → StaysAsTold (old.held name) (new.held name)
  pub read_faults : new.read_faults ≡ old.read_faults

-- the opened output's name holds what was written to it, and whoever does not tell that name tells of no name
pub record HoldsWhatIsWritten (files : FilesState) : Type 0 where
  pub holds : (name text : List ℕ) → files.output ≡ Some (Some name) → files.written ≡ Some text
      → IfSome (files.held name) (λ file. file ≡ Some text)
  pub output_told : files.output ≡ None → (name : List ℕ) → files.held name ≡ None
