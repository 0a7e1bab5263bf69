use Rattle.std.proofs.Common.{◌≡◌, take}
use Rattle.model_flips.proofs.AscentLemmas.{AscendsTo}
use Rattle.known_sets.proofs.arena.set_of.Given as goal

-- the groups so far, which ascend to the last of them
abbrev pub invariant-loop-group : goal.invariant-loop-group
invariant-loop-group l = (l.set ≡ take l.group-index l.groups) × AscendsTo 0 l.last l.set
