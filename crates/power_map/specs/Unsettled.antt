-- The groups of which it is not known yet whether each conflict has them.
use Rattle.std.specs.Prelude.{◌≡◌, ℕ, Bool, false, true, not, ◌==◌, ◌<◌, List, [], ◌∷◌}
use Rattle.std.specs.List.{list_any, filter}
use Rattle.gm_base.specs.declared.kind.Side.{Side}
use Rattle.gm_base.specs.declared.kind.Side.TheVariants.{Up, Down}
use Rattle.gm_base.specs.Sets.{has, all_groups, complement}
use Rattle.gm_base.specs.Explored.{Found, is_explored}

-- whether a block leaves all groups but one: that of a conflict which has the group, or of a correction which has another
abbrev pub leaves : Side → List ℕ → ℕ → Bool
leaves Up set g = has set g
leaves Down set g = list_any (λ h. not (h == g)) set

-- the groups that are unsettled behind a block: those of a first conflict, or those that were so and that the block leaves
abbrev pub unsettled_behind : Bool → Side → List ℕ → List ℕ → List ℕ
unsettled_behind true Up set groups = set
unsettled_behind true Down set groups = []
unsettled_behind false side set groups = filter (leaves side set) groups

-- all groups but this one are not explored, and all groups are
pub record IsUnsettled (groups : ℕ) (found : List Found) (g : ℕ) : Type 0 where
  pub low : 0 < g
  pub left : is_explored found (complement groups (g ∷ [])) ≡ false
  pub all : is_explored found (all_groups groups) ≡ true

abbrev pub AreUnsettled : ℕ → List Found → List ℕ → Type 0
AreUnsettled groups found unsettled = (g : ℕ) → has unsettled g ≡ true → IsUnsettled groups found g
