use Rattle.std.proofs.Common.{rules}
use Rattle.map_core.proofs.admit.admit.Goals as goal

-- a set that is held was answered before
pub keep-requires-clause-fresh : goal.keep-requires-clause-fresh
keep-requires-clause-fresh g c = search rules
