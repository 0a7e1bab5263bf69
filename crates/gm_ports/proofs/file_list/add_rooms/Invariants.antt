use Rattle.std.proofs.Common.{◌≡◌, ◌++◌}
use Rattle.std.specs.Prelude.{map}
use Rattle.gm_ports.specs.MemFiles.{file_without}
use Rattle.gm_ports.proofs.file_list.add_rooms.Given as goal

abbrev pub invariant-loop-room : goal.invariant-loop-room
invariant-loop-room l = l.files.items ≡ l.initial.files.items ++ map file_without l.yielded
