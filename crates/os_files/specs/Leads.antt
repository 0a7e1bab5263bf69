-- What a name leads to. A regular file is told by its device and its inode (POSIX, sys/stat.h), and so is the folder in which one
-- would be made.
use Rattle.std.specs.Prelude.{◌≡◌, ◌≢◌, ℕ, List, Option, Some, None}
use Rattle.std.specs.String.{string_bytes}
use Rattle.os_files.specs.declared.leads.Leads.{Leads}
use Rattle.os_files.specs.declared.leads.Leads.TheVariants.{File, Free, Elsewhere}

-- the place of a file: its device and its inode; of one that would be made those of its folder, and its name there
abbrev pub place_of : Leads → Option (ℕ × ℕ × Option (List ℕ))
place_of (File device inode) = Some (device, inode, None)
place_of (Free device inode last) = Some (device, inode, Some (string_bytes last))
place_of Elsewhere = None

-- both have one place, which is known
abbrev pub AreOne : Leads → Leads → Type 0
AreOne a b = (place_of a ≢ None) × (place_of a ≡ place_of b)
