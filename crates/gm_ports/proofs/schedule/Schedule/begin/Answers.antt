use Rattle.std.proofs.Common.{rules}
use Rattle.gm_ports.proofs.schedule.Schedule.begin.Goals as goal

-- a call that fails counts one fault more
pub returns-clause-err : goal.returns-clause-err
returns-clause-err c = search rules

-- and its fault has a cause
pub returns-clause-cause : goal.returns-clause-cause
returns-clause-cause c = search rules
