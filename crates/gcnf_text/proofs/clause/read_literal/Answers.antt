use Rattle.std.proofs.Common.{rules}
use Rattle.gcnf_text.proofs.clause.read_literal.Goals as goal

-- no variable is above the last
pub overflow_cast-number : goal.overflow_cast-number
overflow_cast-number c = search rules

-- nor above the greatest that a literal has
pub new-requires-clause-in_range : goal.new-requires-clause-in_range
new-requires-clause-in_range c = search rules

-- a variable above the last is refused
pub returns-in-Number-2-clause-step : goal.returns-in-Number-2-clause-step
returns-in-Number-2-clause-step c = search rules

-- and another one is read
pub returns-in-Number-3-clause-step : goal.returns-in-Number-3-clause-step
returns-in-Number-3-clause-step c = search rules

-- within the last
pub returns-in-Number-3-clause-fits : goal.returns-in-Number-3-clause-fits
returns-in-Number-3-clause-fits c = search rules

-- an end mark has the offence that is told
pub returns-in-Word-clause-step : goal.returns-in-Word-clause-step
returns-in-Word-clause-step c = search rules
