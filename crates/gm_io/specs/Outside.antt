-- What a run finds and leaves outside.
use Rattle.std.specs.Prelude.{◌⊎◌, ℕ, List, Option, None}
use Rattle.gm_ports.specs.Faults.{Rose}
use Rattle.gm_ports.specs.FilesState.{FilesState}
use Rattle.gm_ports.specs.Told.{ToldAppends, ToldGrowsWithin}

-- what a run finds and leaves outside: what its files tell, what the report's sink got, and how many faults that counted
pub record Outside : Type 0 where
  pub files : FilesState
  pub got : Option (List ℕ)
  pub faults : ℕ

abbrev pub outside : FilesState → Option (List ℕ) → ℕ → Outside
outside files got faults = record { files = files; got = got; faults = faults }

-- one that tells no bytes, but its faults of reading and of writing files, and those of the report's sink
abbrev pub untold : ℕ → ℕ → ℕ → Outside
untold reads writes faults = record {
  files = record { held = λ _. None; unread = None; output = None; written = None; read_faults = reads; write_faults = writes };
  got = None;
  faults = faults;
}

-- no count of faults rose
abbrev pub NoneRose : Outside → Outside → Type 0
NoneRose old new =
    ¬ Rose old.files.read_faults new.files.read_faults × ¬ Rose old.files.write_faults new.files.write_faults × ¬ Rose old.faults new.faults

-- a sink got this line and nothing else, or a front part of it where its count of faults rose
abbrev pub GetsLine : Option (List ℕ) → Option (List ℕ) → ℕ → ℕ → List ℕ → Type 0
GetsLine old new faults_old faults_new line = ToldAppends old new line ⊎ (Rose faults_old faults_new × ToldGrowsWithin old new line)
