use Rattle.std.proofs.Common.{◌≡◌, ◌++◌}
use Rattle.std.specs.Prelude.{map}
use Rattle.gm_ports.specs.MemFiles.{file_with}
use Rattle.gm_ports.proofs.file_list.add_texts.Given as goal

abbrev pub invariant-loop-text : goal.invariant-loop-text
invariant-loop-text l = l.files.items ≡ l.initial.files.items ++ map (file_with l.rooms) l.yielded
