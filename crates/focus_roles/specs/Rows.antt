-- Worked examples, computed from the definitions. The wanted lists were worked out by hand.
use Rattle.std.specs.Prelude.{◌≡◌, [], ◌∷◌, pos, negsuc}
use Rattle.std.proofs.Common.{refl}
use Rattle.gm_base.specs.Problem.{Problem}
use Rattle.gm_base.specs.Minimal.{conflicts, corrections, is_conflict, is_correction, is_sat}
use Rattle.gm_base.specs.Rows.{four_clauses, in_group}
use Rattle.focus_roles.specs.Narrow.{narrowed}

-- x, not x, x implies y, not y; the first two in focus, in which conflict one correction is cut to what another one is
abbrev pub first_two : Problem
first_two = narrowed four_clauses (1 ∷ 2 ∷ [])

pub first_two_are :
    first_two ≡ record { vars = 2; groups = 4; clauses = in_group 1 (pos 1 ∷ []) ∷ in_group 2 (negsuc 0 ∷ []) ∷ [] }
first_two_are = refl

pub first_two_conflicts : conflicts first_two ≡ (1 ∷ 2 ∷ []) ∷ []
unfolding conflicts is_conflict is_sat
first_two_conflicts = refl

pub first_two_corrections : corrections first_two ≡ (1 ∷ []) ∷ (2 ∷ []) ∷ []
unfolding corrections is_correction is_sat
first_two_corrections = refl

-- the middle two, and a group that there isn't: nothing clashes
pub middle_two_corrections : corrections (narrowed four_clauses (2 ∷ 3 ∷ 9 ∷ [])) ≡ [] ∷ []
unfolding corrections is_correction is_sat
middle_two_corrections = refl

-- a group that clashes with itself, and two that clash with each other: one cut correction holds another one
abbrev pub one_and_a_pair : Problem
one_and_a_pair =
    record {
      vars = 2;
      groups = 3;
      clauses = in_group 1 (pos 1 ∷ []) ∷ in_group 1 (negsuc 0 ∷ []) ∷ in_group 2 (pos 2 ∷ []) ∷ in_group 3 (negsuc 1 ∷ []) ∷ [];
    }

pub one_and_a_pair_corrections : corrections one_and_a_pair ≡ (1 ∷ 2 ∷ []) ∷ (1 ∷ 3 ∷ []) ∷ []
unfolding corrections is_correction is_sat
one_and_a_pair_corrections = refl

pub first_of_pair_corrections : corrections (narrowed one_and_a_pair (1 ∷ 2 ∷ [])) ≡ (1 ∷ []) ∷ []
unfolding corrections is_correction is_sat
first_of_pair_corrections = refl

-- the background stays whatever is in focus
abbrev pub clashing_background : Problem
clashing_background = record { vars = 1; groups = 1; clauses = in_group 0 (pos 1 ∷ []) ∷ in_group 1 (negsuc 0 ∷ []) ∷ in_group 0 (negsuc 0 ∷ []) ∷ [] }

pub clashing_background_conflicts : conflicts (narrowed clashing_background []) ≡ [] ∷ []
unfolding conflicts is_conflict is_sat
clashing_background_conflicts = refl
