use Rattle.std.proofs.Common.{rules}
use Rattle.map_core.proofs.admit.hold.Goals as goal

-- the record comes last
pub returns-clause-record_ok : goal.returns-clause-record_ok
returns-clause-record_ok g c = search rules
