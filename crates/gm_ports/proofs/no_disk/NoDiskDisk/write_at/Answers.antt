use Rattle.std.proofs.Common.{length, inl, refl, arith}
use Rattle.gm_ports.proofs.MemDiskLemmas.{Torn-none}
use Rattle.gm_ports.proofs.no_disk.NoDiskDisk.write_at.Goals as goal

-- what is left at last is one of the outcomes, since all are
pub returns-clause-writes : goal.returns-clause-writes
returns-clause-writes c = record {
  tells = (λ h. h, λ h. h);
  crash = λ left _. (left, tt, Torn-none c.args.at (length c.args.piece.now) left);
  time = record { later = omega arith; nothing_else = λ t left le now. inl tt; keeps = λ t left le was. tt };
  name = refl;
}
