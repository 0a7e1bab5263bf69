use Rattle.gm_journal.proofs.KeptLemmas.{read_keeps, left_keeps}
use Rattle.gm_journal.proofs.laws.kept_is_salvaged.Goals as goal

pub returns-clause-read : goal.returns-clause-read
returns-clause-read g c = λ o kept gate bytes is told. read_keeps (g.D.Disk.state c.args._disk.now) o kept gate is bytes told

pub returns-clause-crash : goal.returns-clause-crash
returns-clause-crash g c = λ o kept gate bytes is left. left_keeps (g.D.Disk.state c.args._disk.now) o kept gate is bytes left
