use Rattle.std.proofs.Common.{◌≡◌, ◌-◌, false}
use Rattle.trail_book.specs.Trail.{IsTrail}
use Rattle.propagate.specs.Propagation.{Grows}
use Rattle.propagate.specs.Watches.{IsKept, KeepsClauses}
use Rattle.propagate.proofs.propagation.propagate_by.Given as goal

abbrev pub invariant-loop-trail : goal.invariant-loop-trail
invariant-loop-trail l =
    record {
      kept : IsKept l.store l.trail;
      none : l.store.false_id ≡ 0;
      grows : Grows l.fn.store.clauses l.fn.trail.entries l.trail.entries;
      clauses : KeepsClauses l.fn.store l.store;
      vars : l.trail.vars ≡ l.fn.trail.vars;
      touched : l.trail.touched ≡ l.fn.trail.touched;
      trail : IsTrail l.trail.vars l.trail.entries;
      unasked : l.parks ≡ false → l.store.parks ≡ l.fn.store.parks;
    }

-- each step propagates a value, and there are no more values than variables
abbrev pub decreases-loop-trail : goal.decreases-loop-trail
decreases-loop-trail l = l.trail.vars - l.trail.done
