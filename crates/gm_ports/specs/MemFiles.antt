-- Files in memory.
use Rattle.std.specs.Prelude.{◌≡◌, ℕ, zero, suc, ◌-◌, ◌≤◌, ◌<◌, Bool, true, false, List, [], ◌∷◌, Option, Some, None, if◌then◌else◌, length, drop, find, position, slice_get, unwrap_or, option_and_then, IfSome, IsSome}
use Rattle.std.specs.Option.{option_map}
use Rattle.std.specs.Str.{bytes_eq}
use Rattle.gm_ports.specs.FilesState.{FilesState}
use Rattle.gm_ports.specs.Schedule.{ScheduleState, after_call}
use Rattle.gm_ports.specs.Texts.{NamedText, NamedRoom, room_named}

-- one name: its bytes, where there is such a file, and its room, where it may be written
pub record MemFileState : Type 0 where
  pub name : List ℕ
  pub bytes : Option (List ℕ)
  pub room : Option ℕ

-- The names, the places of the opened input and of the output that was opened last, and the two kinds of calls. Of
-- several files of one name only the first is ever found.
pub record MemFilesState : Type 0 where
  pub files : List MemFileState
  -- the input's place, and how many of its bytes were read
  pub input : Option ℕ
  pub at : ℕ
  -- the output's place, and whether it may still be written
  pub output : Option ℕ
  pub is_open : Bool
  pub per_read : ℕ
  pub per_write : ℕ
  pub reads : ScheduleState
  pub writes : ScheduleState

-- where the file of this name is, and that file
abbrev pub place_of : List MemFileState → List ℕ → Option ℕ
place_of files name = position (λ f. bytes_eq f.name name) files

abbrev pub file_named : List MemFileState → List ℕ → Option MemFileState
file_named files name = find (λ f. bytes_eq f.name name) files

-- what is held under a name, and its room where it may be written
abbrev pub held_under : List MemFileState → List ℕ → Option (List ℕ)
held_under files name = option_and_then (λ f. f.bytes) (file_named files name)

abbrev pub room_under : List MemFileState → List ℕ → Option ℕ
room_under files name = option_and_then (λ f. f.room) (file_named files name)

-- the bytes and the room of the file at a place
abbrev pub text_at : List MemFileState → ℕ → List ℕ
text_at files i = unwrap_or (option_and_then (λ f. f.bytes) (slice_get files i)) []

abbrev pub room_at : List MemFileState → ℕ → ℕ
room_at files i = unwrap_or (option_and_then (λ f. f.room) (slice_get files i)) 0

-- the files, of which the one at a place holds these bytes now
abbrev pub holding : List MemFileState → ℕ → List ℕ → List MemFileState
holding [] i bytes = []
holding (f ∷ fs) zero bytes = record f { bytes = Some bytes } ∷ fs
holding (f ∷ fs) (suc i) bytes = f ∷ holding fs i bytes

-- what is unread of the input, and what was written to the output; nothing where none was opened
abbrev pub unread_of : MemFilesState → List ℕ
unread_of s = unwrap_or (option_map (λ i. drop s.at (text_at s.files i)) s.input) []

abbrev pub written_of : MemFilesState → List ℕ
written_of s = unwrap_or (option_map (λ i. text_at s.files i) s.output) []

-- how many bytes the output may still grow by
abbrev pub room_left : MemFilesState → ℕ
room_left s = unwrap_or (option_map (λ i. room_at s.files i - length (text_at s.files i)) s.output) 0

-- the output's name, while it may be written
abbrev pub output_name : MemFilesState → Option (List ℕ)
output_name s = if s.is_open then option_map (λ f. f.name) (option_and_then (slice_get s.files) s.output) else None

-- the files, of which the output holds these bytes now
abbrev pub writing : MemFilesState → List ℕ → List MemFileState
writing s bytes = unwrap_or (option_map (λ i. holding s.files i bytes) s.output) s.files

-- files of which nothing was opened yet
abbrev pub fresh_files : List MemFileState → ℕ → ℕ → List ℕ → List ℕ → MemFilesState
fresh_files files per_read per_write failing_reads failing_writes = record {
  files = files;
  input = None;
  at = 0;
  output = None;
  is_open = false;
  per_read = per_read;
  per_write = per_write;
  reads = record { failing = failing_reads; calls = 0; faults = 0 };
  writes = record { failing = failing_writes; calls = 0; faults = 0 };
}

-- files in memory tell everything
abbrev pub files_state : MemFilesState → FilesState
files_state s = record {
  held = λ name. Some (held_under s.files name);
  unread = Some (unread_of s);
  output = Some (output_name s);
  written = Some (written_of s);
  read_faults = s.reads.faults;
  write_faults = s.writes.faults;
}

-- the file of this name holds nothing now, and is the output
pub record IsOpenedOut (old new : MemFilesState) (name : List ℕ) : Type 0 where
  pub place : ℕ
  pub named : place_of old.files name ≡ Some place
  pub opened : new ≡ record old { files = holding old.files place []; output = Some place; is_open = true; writes = after_call old.writes }

-- a file that was opened for writing: the first of its name, with no more bytes than its room
pub record IsOutputAt (files : List MemFileState) (i : ℕ) : Type 0 where
  pub file : MemFileState
  pub text : List ℕ
  pub room : ℕ
  pub there : slice_get files i ≡ Some file
  pub first : place_of files file.name ≡ Some i
  pub text_is : file.bytes ≡ Some text
  pub room_is : file.room ≡ Some room
  pub fits : length text ≤ room

-- the places are places, and a call can make way
pub record AreMemFiles (s : MemFilesState) : Type 0 where
  pub input : IfSome s.input (λ i. i < length s.files)
  pub output : IfSome s.output (λ i. IsOutputAt s.files i)
  pub opened : s.is_open ≡ true → IsSome s.output
  pub reads_some : 0 < s.per_read
  pub writes_some : 0 < s.per_write

-- the file that stands for a text, and the one that stands for a name with room and no text
abbrev pub file_with : List NamedRoom → NamedText → MemFileState
file_with rooms t = record { name = t.name; bytes = Some t.bytes; room = room_named rooms t.name }

abbrev pub file_without : NamedRoom → MemFileState
file_without r = record { name = r.name; bytes = None; room = Some r.room }
