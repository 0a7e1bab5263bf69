use Rattle.std.proofs.Common.{◌≡◌, not, take}
use Rattle.std.specs.List.{count_by}
use Rattle.map_core.specs.Tallies.{IsMet}
use Rattle.map_core.proofs.tally.meet.Given as goal

-- the groups so far are marked
abbrev pub invariant-loop-g : goal.invariant-loop-g
invariant-loop-g l = record {
  is : IsMet (take l.g-index l.set) l.fn.met.items l.met.items;
  count : l.rest ≡ count_by not l.met.items;
}
