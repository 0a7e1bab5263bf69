use Rattle.std.proofs.Common.{arith, rules}
use Rattle.map_core.proofs.Searched.{left_within}
use Rattle.map_core.proofs.ask.find.Goals as goal

-- the engine's log only grows, so the purse has no more than before
pub overflow_sub-used : goal.overflow_sub-used
overflow_sub-used g c = let low = left_within c.seed-found.ensures.spent in omega arith

-- the seed is what the engine found, and the job is made of it
pub returns-in-Ok-Set-clause-answered : goal.returns-in-Ok-Set-clause-answered
returns-in-Ok-Set-clause-answered g c = search rules
