use Rattle.std.proofs.Common.{◌-◌, vec_len}
use Rattle.gm_ports.proofs.ReadingLemmas.{ReadSoFar}
use Rattle.gm_ports.proofs.whole.read_opened.Given as goal

abbrev pub invariant-turns : goal.invariant-turns
invariant-turns g l = ReadSoFar (g.F.Files.state l.initial.files) (g.F.Files.state l.files) l.limit (vec_len l.piece) l.bytes.items

abbrev pub decreases-turns : goal.decreases-turns
decreases-turns g l = l.limit - vec_len l.bytes
