use Rattle.std.proofs.Common.{ℕ, ◌<◌, get_or}
use Rattle.sat_base.specs.Members.{In}
use Rattle.gm_base.specs.declared.index.Placed.{Placed}
use Rattle.model_flips.proofs.repair.add_places.Given as goal

-- what was listed stays, and the places so far are listed
abbrev pub invariant-loop-placed : goal.invariant-loop-placed
invariant-loop-placed l = ((at : ℕ) → In at l.fn.places.items → In at l.places.items) × ((k : ℕ) (d : Placed) → k < l.placed-index → In (get_or l.placed-items k d).at l.places.items)
