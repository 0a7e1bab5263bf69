use Rattle.std.proofs.Common.{arith}
use Rattle.known_sets.proofs.ArenaLemmas.{entries_after_push}
use Rattle.known_sets.proofs.arena.SetArena.push.Goals as goal

-- a longer arena cuts the same for the older spans, and the last span cuts what was added
pub returns-clause-ok : goal.returns-clause-ok
returns-clause-ok g c = grind (arith, entries_after_push)
