use Rattle.std.proofs.Common.{◌≡◌, ◌+◌, eqb, take}
use Rattle.std.specs.List.{count_by}
use Rattle.map_core.specs.Tallies.{IsCarried}
use Rattle.map_core.proofs.tally.carry.Given as goal

-- the groups so far that carried the current number carry the next one
abbrev pub invariant-loop-g : goal.invariant-loop-g
invariant-loop-g l = record {
  is : IsCarried l.current (take l.g-index l.set) l.fn.carried.items l.carried.items;
  count : l.carriers ≡ count_by (λ n. eqb n (l.current + 1)) l.carried.items;
}
