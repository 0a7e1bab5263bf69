use Rattle.std.proofs.Common.{◌≡◌, ◌≢◌, ◌<◌, IfSome}
use Rattle.std.specs.Prelude.{ℤ}
use Rattle.clause_store.specs.Links.{link_of, park_of}
use Rattle.propagate.specs.Walk.{IsReturning}
use Rattle.propagate.proofs.parking.unpark.Given as goal

abbrev pub invariant-loop-at : goal.invariant-loop-at
invariant-loop-at l =
    record {
      returning : IsReturning l.store l.trail l.lit (link_of l.at) l.left;
      from_one : IfSome l.at (λ id. 0 < id);
      others : (other : ℤ) → other ≢ l.lit → park_of l.store other ≡ park_of l.fn.store other;
      rest : l.store ≡ record l.fn.store { nexts = l.store.nexts; heads = l.store.heads; tails = l.store.tails; parks = l.store.parks };
    }

-- each step leaves one watch fewer
abbrev pub decreases-loop-at : goal.decreases-loop-at
decreases-loop-at l = l.left
