use Rattle.std.proofs.Common.{◌≡◌, ◌≤◌, All, map, take}
use Rattle.sat_base.specs.Derivation.{max_id}
use Rattle.lrat_steps.specs.Cone.{hints_at, number_in}
use Rattle.lrat_steps.specs.Log.{steps_of}
use Rattle.lrat_steps.proofs.renumber.renumber.Given as goal

-- the hints up to this one have their new numbers
abbrev pub invariant-loop-at : goal.invariant-loop-at
invariant-loop-at l =
    record {
      numbers : l.numbers.items ≡ map (number_in (steps_of l.log) l.cone) (take l.at (hints_at (steps_of l.log) l.id));
      small : All (λ n. n ≤ max_id) l.numbers.items;
    }
