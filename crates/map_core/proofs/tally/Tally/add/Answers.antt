use Rattle.std.proofs.Common.{[], ◌∷◌, ◌++◌, sym, subst}
use Rattle.map_core.specs.Tallies.{Tallies, IsTally}
use Rattle.map_core.proofs.tally.Tally.add.Goals as goal

-- each kind in its own way
pub returns-in-Conflict : goal.returns-in-Conflict
returns-in-Conflict c = λ groups sets tally.
    subst (λ g. Tallies g groups (sets ++ record { kind = c.args.kind; set = c.args.set.now } ∷ []) c.add_conflict.new.self) (sym c.in-Roles.is)
    (subst (λ k. IsTally groups (sets ++ record { kind = k; set = c.args.set.now } ∷ []) c.add_conflict.new.self) (sym c.in-Conflict.is)
    (c.add_conflict.ensures groups sets (subst (λ g. Tallies g groups sets c.args.self.now) c.in-Roles.is tally)))

pub returns-in-Correction : goal.returns-in-Correction
returns-in-Correction c = λ groups sets tally.
    subst (λ g. Tallies g groups (sets ++ record { kind = c.args.kind; set = c.args.set.now } ∷ []) c.add_correction.new.self) (sym c.in-Roles.is)
    (subst (λ k. IsTally groups (sets ++ record { kind = k; set = c.args.set.now } ∷ []) c.add_correction.new.self) (sym c.in-Correction.is)
    (c.add_correction.ensures groups sets (subst (λ g. Tallies g groups sets c.args.self.now) c.in-Roles.is tally)))
