use Rattle.std.proofs.Common.{rules}
use Rattle.gcnf_text.proofs.clause.read_cnf_end.Goals as goal

-- an end mark may follow, with anything behind it
pub returns-in-Word : goal.returns-in-Word
returns-in-Word c = search rules
