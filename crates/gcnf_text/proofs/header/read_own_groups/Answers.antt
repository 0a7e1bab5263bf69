use Rattle.std.proofs.Common.{rules}
use Rattle.gcnf_text.proofs.header.read_own_groups.Goals as goal

-- the limit of clauses is tried first
pub returns-in-Number-clause-step : goal.returns-in-Number-clause-step
returns-in-Number-clause-step c = search rules
