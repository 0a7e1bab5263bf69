use Rattle.std.proofs.Common.{◌≡◌, ◌<◌, IfSome, false}
use Rattle.clause_store.specs.Links.{link_of}
use Rattle.trail_book.specs.Trail.{IsTrail}
use Rattle.propagate.specs.Propagation.{Grows}
use Rattle.propagate.specs.Watches.{KeepsClauses}
use Rattle.propagate.specs.Walk.{IsWalk}
use Rattle.propagate.proofs.propagation.visit_all.Given as goal

abbrev pub invariant-loop-cursor : goal.invariant-loop-cursor
invariant-loop-cursor l =
    record {
      walk : IsWalk l.store l.trail l.falsified (link_of l.cursor.before) (link_of l.cursor.at) l.left;
      before_from_one : IfSome l.cursor.before (λ id. 0 < id);
      from_one : IfSome l.cursor.at (λ id. 0 < id);
      grows : Grows l.fn.store.clauses l.fn.trail.entries l.trail.entries;
      clauses : KeepsClauses l.fn.store l.store;
      done : l.trail.done ≡ l.fn.trail.done;
      vars : l.trail.vars ≡ l.fn.trail.vars;
      touched : l.trail.touched ≡ l.fn.trail.touched;
      trail : IsTrail l.trail.vars l.trail.entries;
      unasked : l.parks ≡ false → l.store.parks ≡ l.fn.store.parks;
    }

-- each step leaves one watch fewer
abbrev pub decreases-loop-cursor : goal.decreases-loop-cursor
decreases-loop-cursor l = l.left
