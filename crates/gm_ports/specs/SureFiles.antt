-- Files in memory of which no call fails: what a MemFiles without failing calls is, and whether it is still told.
use Rattle.std.specs.Prelude.{◌≡◌, ℕ, ◌<◌, Bool, true, false, List, [], Option, Some, None, unwrap_or, option_and_then}
use Rattle.gm_ports.specs.FilesState.{FilesState}
use Rattle.gm_ports.specs.MemFiles.{MemFileState, MemFilesState, place_of, held_under, unread_of, written_of, output_name, room_left}

-- the files, and whether they tell still: they do until a name without room is opened, or bytes are taken that have no
-- place. Its counts of calls are of no account
pub record SureFilesState : Type 0 where
  pub mem : MemFilesState
  pub tells : Bool

-- what a name holds: one that is not held counts as an empty file
abbrev pub bytes_under : List MemFileState → List ℕ → List ℕ
bytes_under files name = unwrap_or (held_under files name) []

-- something is told, or not
abbrev pub told_if : {A : Type 0} → Bool → A → Option A
told_if true x = Some x
told_if false x = None

-- all is told, or nothing. No fault is ever counted
abbrev pub files_state : SureFilesState → FilesState
files_state s = record {
  held = λ name. told_if s.tells (Some (bytes_under s.mem.files name));
  unread = told_if s.tells (unread_of s.mem);
  output = told_if s.tells (output_name s.mem);
  written = told_if s.tells (written_of s.mem);
  read_faults = 0;
  write_faults = 0;
}

-- the input's place: that of the file that is held under the name, or nowhere, where nothing is to be read
abbrev pub input_place : List MemFileState → List ℕ → Option ℕ
input_place files name = option_and_then (λ bytes. place_of files name) (held_under files name)

-- an output is opened, and has room
pub record HasRoom (s : MemFilesState) : Type 0 where
  pub opened : s.is_open ≡ true
  pub room : 0 < room_left s
