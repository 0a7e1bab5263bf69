use Rattle.std.proofs.Common.{arith, rules}
use Rattle.std.proofs.lemmas.Grind.{common_steps}
use Rattle.gm_ports.proofs.mem_files.MemFiles.read.Goals as goal

-- as many bytes as are asked for, moved and left
pub returns-clause-gives : goal.returns-clause-gives
returns-clause-gives c = grind (arith, common_steps)

-- from where the last read ended
pub returns-clause-bytes : goal.returns-clause-bytes
returns-clause-bytes c = search rules

-- nothing is given where nothing is left
pub returns-clause-end : goal.returns-clause-end
returns-clause-end c = grind (arith, common_steps)
