-- Laws of longer problems, over the definitions alone.
use Rattle.std.specs.Prelude.{◌≡◌, ◌↔◌, ℕ, Bool, true, false, List, map, None}
use Rattle.sat_base.specs.Derivation.{Derivation}
use Rattle.gm_base.specs.Sets.{has, IsGroupSet, IsSubset, all_groups, complement}
use Rattle.gm_base.specs.Problem.{Problem, IsProblem, Sat}
use Rattle.gm_base.specs.Minimal.{IsCorrection}
use Rattle.gm_base.specs.Evidence.{AcceptsConflict}
use Rattle.edit_session.specs.Extends.{Extends, first_break}
use Rattle.edit_session.specs.Carried.{carried_proof, carried_witness}
use Rattle.edit_session.specs.Opening.{up_to}

-- nothing breaks exactly where the one problem extends the other
abbrev pub NoneWhereExtends : Type 0
NoneWhereExtends = (old new : Problem) → (first_break old new ≡ None ↔ Extends old new)

-- an accepted conflict, carried over, is accepted
abbrev pub KeptIsAccepted : Type 0
KeptIsAccepted =
    (old new : Problem) (set : List ℕ) (proof : Derivation) (witnesses : List (List Bool))
    → IsProblem old
    → Extends old new
    → IsSubset set (all_groups old.groups)
    → AcceptsConflict old set proof witnesses
    → AcceptsConflict new set (carried_proof old new proof) (map (carried_witness new) witnesses)

-- a set whose removal leaves a satisfiable rest, and that has no old group outside an old correction, has among the old
-- groups just those of the correction
abbrev pub RegrownHasTheOld : Type 0
RegrownHasTheOld =
    (old new : Problem) (set grown : List ℕ)
    → IsProblem old
    → Extends old new
    → IsGroupSet set
    → IsSubset set (all_groups old.groups)
    → IsCorrection old set
    → IsGroupSet grown
    → Sat new (complement new.groups grown)
    → ((g : ℕ) → has grown g ≡ true → has (complement old.groups set) g ≡ false)
    → up_to old.groups grown ≡ set
