-- What it is to write a text to the opened output: what was taken of it, and what a cut leaves.
use Rattle.std.specs.Prelude.{◌≡◌, ◌⊎◌, ℕ, List, ◌++◌, Some, None, IfSome}
use Rattle.gm_ports.specs.Faults.{Rose}
use Rattle.gm_ports.specs.FilesState.{FilesState, WritingLeaves, HoldsWhatIsWritten, StaysAsTold, TellsNothingNew}
use Rattle.gm_ports.specs.Told.{ToldAppends, ToldGrowsWithin}
use Rattle.gm_io.specs.declared.evidence_file.CutOff.{CutOff}
use Rattle.gm_io.specs.declared.evidence_file.CutOff.TheVariants.{Failed, Memory}

-- writes to the opened output leave each other name, the count of read faults, and which output it is; they tell nothing new,
-- and go on holding what is written
pub record WritesOn (old new : FilesState) : Type 0 where
  pub leaves : WritingLeaves (λ name. old.output ≡ Some (Some name)) old new
  pub output : StaysAsTold old.output new.output
  pub holds : HoldsWhatIsWritten old → HoldsWhatIsWritten new
  pub untold : TellsNothingNew old new

-- the opened output took this text
pub record IsTaken (old new : FilesState) (text : List ℕ) : Type 0 where
  pub grew : ToldAppends old.written new.written text
  pub quiet : new.write_faults ≡ old.write_faults
  pub writes : WritesOn old new

-- the opened output took this text, and then failed
pub record IsTakenToFault (old new : FilesState) (text : List ℕ) : Type 0 where
  pub grew : ToldAppends old.written new.written text
  pub rose : Rose old.write_faults new.write_faults
  pub writes : WritesOn old new

-- a fault has its cause, and want of memory is none
abbrev pub CutHasCause : CutOff → ℕ → ℕ → Type 0
CutHasCause Failed before now = Rose before now
CutHasCause Memory before now = now ≡ before

-- a text was cut off: the opened output took a front part of it
pub record IsCutOff (old new : FilesState) (text : List ℕ) (why : CutOff) : Type 0 where
  pub grew : ToldGrowsWithin old.written new.written text
  pub cause : CutHasCause why old.write_faults new.write_faults
  pub writes : WritesOn old new

-- what was written to the output that was opened last is this text; and what the name holds, as far as both are told; and it
-- is ended: where told, no output is opened any more
pub record IsWritten (name text : List ℕ) (files : FilesState) : Type 0 where
  pub written : IfSome files.written (λ bytes. bytes ≡ text)
  pub held : IfSome files.written (λ bytes. IfSome (files.held name) (λ file. file ≡ Some bytes))
  pub ended : IfSome files.output (λ output. output ≡ None)

-- what was written to the output that was opened last is a front part of this text
abbrev pub IsFront : List ℕ → FilesState → Type 0
IsFront text files = IfSome files.written (λ bytes. (rest : List ℕ) × (text ≡ bytes ++ rest))

-- ---- two texts, each to an output of its own

-- the name holds this text, as far as that is told beside what was written last
abbrev pub StandsWhole : List ℕ → List ℕ → FilesState → Type 0
StandsWhole name text files = IfSome files.written (λ _. IfSome (files.held name) (λ file. file ≡ Some text))

-- the first stands whole under its name, and the second was written to the output that was opened last
pub record AreWritten (first first_text second second_text : List ℕ) (files : FilesState) : Type 0 where
  pub stands : StandsWhole first first_text files
  pub last : IsWritten second second_text files

-- a front part of the first was written, and no other name is changed
pub record IsFirstCutOff (first first_text : List ℕ) (old new : FilesState) : Type 0 where
  pub front : IsFront first_text new
  pub leaves : WritingLeaves (λ name. name ≡ first) old new

-- the first stands whole, and a front part of the second was written
pub record IsSecondCutOff (first first_text second_text : List ℕ) (files : FilesState) : Type 0 where
  pub stands : StandsWhole first first_text files
  pub front : IsFront second_text files

-- one of the two was cut off
abbrev pub AreCutOff : List ℕ → List ℕ → List ℕ → FilesState → FilesState → Type 0
AreCutOff first first_text second_text old new = IsFirstCutOff first first_text old new ⊎ IsSecondCutOff first first_text second_text new
