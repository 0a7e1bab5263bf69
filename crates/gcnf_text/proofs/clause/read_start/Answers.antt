use Rattle.std.proofs.Common.{rules}
use Rattle.gcnf_text.proofs.clause.read_start.Goals as goal

-- in CNF nothing was read
pub returns-in-Cnf-clause-step : goal.returns-in-Cnf-clause-step
returns-in-Cnf-clause-step c = search rules

-- and the group is the place
pub returns-in-Cnf-clause-group : goal.returns-in-Cnf-clause-group
returns-in-Cnf-clause-group c = search rules
