-- Worked roles for the four clauses of `Rows`, computed from the definitions. The wanted values were worked out by hand.
use Rattle.std.specs.Prelude.{◌≡◌, ℕ, true, false, List, [], ◌∷◌, map, take}
use Rattle.std.proofs.Common.{refl}
use Rattle.gm_base.specs.declared.kind.Kind.TheVariants.{Conflict, Correction}
use Rattle.gm_base.specs.declared.role.Role.TheVariants.{InEvery, InSome, InNone}
use Rattle.gm_base.specs.Minimal.{conflicts, is_conflict, is_sat}
use Rattle.gm_base.specs.Explored.{Found}
use Rattle.gm_base.specs.Rows.{four_clauses}
use Rattle.gm_base.specs.EvidenceRows.{all_five}
use Rattle.gm_base.specs.Roles.{role, role_among, is_settled, are_settled}

pub roles_of_four_clauses : map (role four_clauses) (1 ∷ 2 ∷ 3 ∷ 4 ∷ []) ≡ InEvery ∷ InSome ∷ InSome ∷ InSome ∷ []
unfolding conflicts is_conflict is_sat
roles_of_four_clauses = refl

-- a group without clauses, and one where there is no conflict
pub role_of_another : role four_clauses 5 ≡ InNone
unfolding conflicts is_conflict is_sat
role_of_another = refl

pub role_without_conflicts : role_among [] 1 ≡ InNone
role_without_conflicts = refl

pub role_in_the_empty_conflict : role_among ([] ∷ []) 1 ≡ InNone
role_in_the_empty_conflict = refl

abbrev pub conflict : List ℕ → Found
conflict set = record { kind = Conflict; set = set }

abbrev pub correction : List ℕ → Found
correction set = record { kind = Correction; set = set }

-- both conflicts and the correction of group 1 alone tell each role; without that correction group 1's is not told
pub settled_by_three : are_settled 4 (take 3 all_five) ≡ true
settled_by_three = refl

pub unsettled_by_two : map (is_settled (take 2 all_five)) (1 ∷ 2 ∷ 3 ∷ 4 ∷ []) ≡ false ∷ true ∷ true ∷ true ∷ []
unsettled_by_two = refl

-- a correction of two groups tells neither, a group in no set is not told, and no groups are told at once
pub unsettled_by_a_pair : are_settled 2 (correction (1 ∷ 2 ∷ []) ∷ []) ≡ false
unsettled_by_a_pair = refl

pub unsettled_without_a_set : are_settled 3 (conflict (1 ∷ []) ∷ conflict (2 ∷ []) ∷ []) ≡ false
unsettled_without_a_set = refl

pub settled_without_groups : are_settled 0 [] ≡ true
settled_without_groups = refl
