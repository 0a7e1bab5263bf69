use Rattle.std.proofs.Common.{rules}
use Rattle.lrat_check.proofs.checker.Checker.clause.Goals as goal

-- the clause that the id names among those that are kept
pub returns-clause-clause : goal.returns-clause-clause
returns-clause-clause c = search rules
