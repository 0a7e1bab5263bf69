use Rattle.std.proofs.Common.{rules}
use Rattle.gcnf_text.proofs.reader.read_problem.Goals as goal

-- a text that is not too long is refused for its header
pub returns-in_err-header : goal.returns-in_err-header
returns-in_err-header c = search rules

-- or for its clauses
pub returns-in_err-clauses : goal.returns-in_err-clauses
returns-in_err-clauses c = search rules

-- or is read
pub returns : goal.returns
returns c = search rules
