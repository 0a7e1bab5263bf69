use Rattle.std.proofs.Common.{length, ◌-◌, ◌≡◌, ◌≤◌, take}
use Rattle.gm_ports.specs.Told.{ToldAppends}
use Rattle.gm_io.specs.Writing.{WritesOn}
use Rattle.gm_io.proofs.evidence_file.write_piece.Given as goal

-- what stands before `at` was written, and no fault was met
abbrev pub invariant-loop-at : goal.invariant-loop-at
invariant-loop-at g l =
    record {
      in_range : l.at ≤ length l.piece;
      got : ToldAppends (g.F.Files.state l.fn.files).written (g.F.Files.state l.files).written (take l.at l.piece);
      quiet : (g.F.Files.state l.files).write_faults ≡ (g.F.Files.state l.fn.files).write_faults;
      writes : WritesOn (g.F.Files.state l.fn.files) (g.F.Files.state l.files);
    }

abbrev pub decreases-loop-at : goal.decreases-loop-at
decreases-loop-at g l = length l.piece - l.at
