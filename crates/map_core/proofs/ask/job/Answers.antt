use Rattle.std.proofs.Common.{rules}
use Rattle.map_core.proofs.ask.job.Goals as goal

-- the grant comes out of what the engine left
pub returns-clause-takes : goal.returns-clause-takes
returns-clause-takes c = search rules
