use Rattle.std.proofs.Common.{◌≡◌, ◌⊎◌, ◌≤◌, length}
use Rattle.std.specs.Prelude.{ℤ}
use Rattle.sat_base.specs.Members.{In}
use Rattle.clause_store.specs.Links.{park_of}
use Rattle.trail_book.specs.Trail.{trues, oldest}
use Rattle.propagate.specs.Watches.{AreHung, IsUnparked}
use Rattle.propagate.proofs.parking.unpark_above.Given as goal

-- nothing is parked under the literals from this place on
abbrev pub invariant-loop-place : goal.invariant-loop-place
invariant-loop-place l =
    record {
      hung : AreHung l.store l.trail;
      within : l.place ≤ length l.trail.entries;
      unparked : IsUnparked l.fn.store → IsUnparked l.store;
      empty : (lit : ℤ) → In lit (trues l.trail.entries) → In lit (trues (oldest l.place l.trail.entries)) ⊎ (park_of l.store lit ≡ 0);
      rest : l.store ≡ record l.fn.store { nexts = l.store.nexts; heads = l.store.heads; tails = l.store.tails; parks = l.store.parks };
    }

abbrev pub decreases-loop-place : goal.decreases-loop-place
decreases-loop-place l = l.place
