use Rattle.std.proofs.Common.{◌+◌, ◌*◌, ◌-◌, length}
use Rattle.propagate.specs.Watches.{KeepsClauses}
use Rattle.propagate.specs.Rebuild.{IsRelisted}
use Rattle.propagate.proofs.relisting.rebuild.Given as goal

-- the clauses up to this one have come to their lists
abbrev pub invariant-loop-id : goal.invariant-loop-id
invariant-loop-id l =
    record {
      lists : IsRelisted l.store l.trail (2 * l.id + 2);
      clauses : KeepsClauses l.fn.store l.store;
    }

abbrev pub decreases-loop-id : goal.decreases-loop-id
decreases-loop-id l = length l.store.clauses - l.id
