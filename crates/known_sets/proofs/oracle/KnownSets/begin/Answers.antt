use Rattle.std.proofs.Common.{rules}
use Rattle.known_sets.proofs.oracle.KnownSets.begin.Goals as goal

-- the question is counted, and what the last answer left is gone
pub returns : goal.returns
returns g c = search rules
