use Rattle.std.proofs.Common.{◌≡◌, ◌≤◌, map, take, All}
use Rattle.sat_base.specs.Derivation.{max_id}
use Rattle.sat_base.specs.Hints.{ids_of}
use Rattle.edit_session.specs.Carried.{carried_id}
use Rattle.edit_session.proofs.numbers.write_hints.Given as goal

-- the hints before this place
abbrev pub invariant-loop-at : goal.invariant-loop-at
invariant-loop-at l =
    record {
      hints : l.out.items ≡ map (carried_id l.old l.new l.ids) (take l.at (ids_of l.hints));
      small : All (λ h. h ≤ max_id) l.out.items;
    }
