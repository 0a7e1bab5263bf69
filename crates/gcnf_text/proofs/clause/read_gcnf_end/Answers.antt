use Rattle.std.proofs.Common.{rules}
use Rattle.gcnf_text.proofs.clause.read_gcnf_end.Goals as goal

-- another clause is one too many
pub returns-in-OpenBrace : goal.returns-in-OpenBrace
returns-in-OpenBrace c = search rules
