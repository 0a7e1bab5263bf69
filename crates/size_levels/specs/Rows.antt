-- Worked examples, computed from the definitions. The wanted lists and the derivations were worked out by hand.
use Rattle.std.specs.Prelude.{◌≡◌, ℕ, true, false, List, [], ◌∷◌, pos}
use Rattle.std.proofs.Common.{refl}
use Rattle.sat_base.specs.Derivation.{Derivation}
use Rattle.gm_base.specs.Minimal.{conflicts, corrections, is_conflict, is_correction, is_sat}
use Rattle.gm_base.specs.declared.kind.Kind.TheVariants.{Conflict, Correction}
use Rattle.gm_base.specs.Explored.{Found}
use Rattle.gm_base.specs.Rows.{four_clauses}
use Rattle.gm_base.specs.EvidenceRows.{one_step}
use Rattle.size_levels.specs.Sizes.{by_size, level_for, packed_behind}
use Rattle.size_levels.specs.Shown.{shows_level}

-- the sets of the first example in order of size: conflicts 1 2 and 1 3 4, corrections 1, 2 3 and 2 4
pub corrections_by_size : by_size 4 (corrections four_clauses) ≡ (1 ∷ []) ∷ (2 ∷ 3 ∷ []) ∷ (2 ∷ 4 ∷ []) ∷ []
unfolding corrections is_correction is_sat
corrections_by_size = refl

pub corrections_of_one : by_size 1 (corrections four_clauses) ≡ (1 ∷ []) ∷ []
unfolding corrections is_correction is_sat
corrections_of_one = refl

pub conflicts_of_two : by_size 2 (conflicts four_clauses) ≡ (1 ∷ 2 ∷ []) ∷ []
unfolding conflicts is_conflict is_sat
conflicts_of_two = refl

-- one correction has one group, three have two at most, and no four there are; of conflicts one has two, and both three
pub one_correction : level_for four_clauses Correction 1 ≡ 1
unfolding corrections is_correction is_sat
one_correction = refl

pub two_corrections : level_for four_clauses Correction 2 ≡ 2
unfolding corrections is_correction is_sat
two_corrections = refl

pub four_corrections : level_for four_clauses Correction 4 ≡ 4
unfolding corrections is_correction is_sat
four_corrections = refl

pub one_conflict : level_for four_clauses Conflict 1 ≡ 2
unfolding conflicts is_conflict is_sat
one_conflict = refl

pub two_conflicts : level_for four_clauses Conflict 2 ≡ 3
unfolding conflicts is_conflict is_sat
two_conflicts = refl

-- of the two conflicts one is packed, since they share a group, and of the corrections two
pub conflicts_packed : packed_behind [] ((1 ∷ 2 ∷ []) ∷ (1 ∷ 3 ∷ 4 ∷ []) ∷ []) ≡ 1
conflicts_packed = refl

pub corrections_packed : packed_behind [] ((1 ∷ []) ∷ (2 ∷ 3 ∷ []) ∷ (2 ∷ 4 ∷ []) ∷ []) ≡ 2
corrections_packed = refl

abbrev conflict : List ℕ → Found
conflict set = record { kind = Conflict; set = set }

abbrev correction : List ℕ → Found
correction set = record { kind = Correction; set = set }

-- both conflicts and the correction 1 explore each set with at most one group out. The blocks are clauses 1 to 3, the counter
-- has 4 to 15, and variable 12 says that two are out
abbrev pub one_out : List Found
one_out = conflict (1 ∷ 2 ∷ []) ∷ conflict (1 ∷ 3 ∷ 4 ∷ []) ∷ correction (1 ∷ []) ∷ []

-- 1 is in, so 2 is out and 1 is counted; so 3 is in, 4 is out, and that makes two
abbrev pub one_out_proof : Derivation
one_out_proof = one_step 16 (pos 12 ∷ []) (3 ∷ 1 ∷ 6 ∷ 14 ∷ 11 ∷ 2 ∷ 15 ∷ 8 ∷ [])

pub one_out_shown : shows_level Correction 4 1 one_out one_out_proof ≡ true
one_out_shown = refl

-- an input is no goal, two may not be out by it, and it is none of conflicts
pub input_is_no_goal : shows_level Correction 4 1 one_out (record { steps = one_out_proof.steps; goal = 15 }) ≡ false
input_is_no_goal = refl

pub two_out_not_shown : shows_level Correction 4 2 one_out one_out_proof ≡ false
two_out_not_shown = refl

pub one_in_not_shown : shows_level Conflict 4 1 one_out one_out_proof ≡ false
one_in_not_shown = refl

-- nor do these clauses show it without the second conflict, or without the correction
pub conflict_missing : shows_level Correction 4 1 (conflict (1 ∷ 2 ∷ []) ∷ correction (1 ∷ []) ∷ []) one_out_proof ≡ false
conflict_missing = refl

pub correction_missing :
    shows_level Correction 4 1 (conflict (1 ∷ 2 ∷ []) ∷ conflict (1 ∷ 3 ∷ 4 ∷ []) ∷ [])
    (one_step 15 (pos 12 ∷ []) (1 ∷ 5 ∷ 13 ∷ 10 ∷ 2 ∷ 14 ∷ 7 ∷ []))
    ≡ false
correction_missing = refl

-- no group in: none may be left out, so the group of the correction is counted, and it is one too many
pub none_in_shown : shows_level Conflict 4 0 one_out (one_step 5 (pos 5 ∷ []) (3 ∷ 4 ∷ [])) ≡ true
none_in_shown = refl

-- at most one group in, where two are sure: the first is left out, and the second is one too many
abbrev pub both_in : List Found
both_in = correction (1 ∷ []) ∷ correction (2 ∷ []) ∷ []

pub one_of_both_shown : shows_level Conflict 2 1 both_in (one_step 4 (pos 3 ∷ []) (2 ∷ 3 ∷ [])) ≡ true
one_of_both_shown = refl

-- both may be in, and nothing explores that: the order is empty, and no literal is allowed
pub two_of_both_not_shown : shows_level Conflict 2 2 both_in (one_step 3 (pos 1 ∷ []) (1 ∷ [])) ≡ false
two_of_both_not_shown = refl

-- where an empty correction was found, all is explored, whatever k is: no counter is there, and the empty clause is an input
pub empty_correction : shows_level Conflict 3 0 (correction [] ∷ []) (record { steps = []; goal = 1 }) ≡ true
empty_correction = refl

pub empty_conflict : shows_level Correction 3 3 (conflict [] ∷ []) (record { steps = []; goal = 1 }) ≡ true
empty_conflict = refl
