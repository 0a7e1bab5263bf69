-- In which minimal conflicts a group is (necessary, potentially necessary and never necessary clauses: Kullmann, Lynce and
-- Marques-Silva 2006), and when the sets that were found tell it.
use Rattle.std.specs.Prelude.{ℕ, Bool, false, not, ◌==◌, ◌&&◌, ◌||◌, if◌then◌else◌, List, [], ◌∷◌}
use Rattle.std.specs.List.{list_any, list_all}
use Rattle.gm_base.specs.Sets.{has, all_groups}
use Rattle.gm_base.specs.Problem.{Problem}
use Rattle.gm_base.specs.Minimal.{conflicts}
use Rattle.gm_base.specs.Explored.{Found}
use Rattle.gm_base.specs.declared.kind.Kind.{Kind}
use Rattle.gm_base.specs.declared.kind.Kind.TheVariants.{Conflict, Correction}
use Rattle.gm_base.specs.declared.role.Role.{Role}
use Rattle.gm_base.specs.declared.role.Role.TheVariants.{InEvery, InSome, InNone}

-- the role of a group in these conflicts
abbrev pub role_among : List (List ℕ) → ℕ → Role
role_among sets g =
    if list_any (λ set. has set g) sets then (if list_all (λ set. has set g) sets then InEvery else InSome) else InNone

-- the role of a group in the minimal conflicts of a problem
abbrev pub role : Problem → ℕ → Role
role p g = role_among (conflicts p) g

-- the group is in a set that was found
abbrev pub is_met : List Found → ℕ → Bool
is_met found g = list_any (λ f. has f.set g) found

-- a conflict that lacks the group
abbrev pub lacks : Kind → List ℕ → ℕ → Bool
lacks Conflict set g = not (has set g)
lacks Correction set g = false

-- the correction of this group alone
abbrev pub is_alone : Kind → List ℕ → ℕ → Bool
is_alone Correction (h ∷ []) g = h == g
is_alone Correction (h ∷ i ∷ set) g = false
is_alone Correction [] g = false
is_alone Conflict set g = false

-- some conflict lacks the group
abbrev pub is_lacked : List Found → ℕ → Bool
is_lacked found g = list_any (λ f. lacks f.kind f.set g) found

-- the group alone is a correction
abbrev pub stands_alone : List Found → ℕ → Bool
stands_alone found g = list_any (λ f. is_alone f.kind f.set g) found

-- the role of the group is told: it is in a set, and either alone a correction or missing in a conflict
abbrev pub is_settled : List Found → ℕ → Bool
is_settled found g = is_met found g && (stands_alone found g || is_lacked found g)

-- the role of each group is told
abbrev pub are_settled : ℕ → List Found → Bool
are_settled groups found = list_all (is_settled found) (all_groups groups)
