-- Worked examples, computed from the definitions. The wanted lists were worked out by hand.
use Rattle.std.specs.Prelude.{◌≡◌, ℕ, List, [], ◌∷◌, pos, negsuc, ℤ}
use Rattle.std.proofs.Common.{refl}
use Rattle.gm_base.specs.declared.clause.Clause.{Clause}
use Rattle.gm_base.specs.Sets.{subsets}
use Rattle.gm_base.specs.Problem.{Problem}
use Rattle.gm_base.specs.Minimal.{conflicts, corrections, is_conflict, is_correction, is_sat}

abbrev pub in_group : ℕ → List ℤ → Clause
in_group g ls = record { group = g; lits = ls }

-- the order of all sets: a prefix first, then by numbers
pub order_of_sets : subsets 3 ≡ [] ∷ (1 ∷ []) ∷ (1 ∷ 2 ∷ []) ∷ (1 ∷ 2 ∷ 3 ∷ []) ∷ (1 ∷ 3 ∷ []) ∷ (2 ∷ []) ∷ (2 ∷ 3 ∷ []) ∷ (3 ∷ []) ∷ []
order_of_sets = refl

-- x, not x, x implies y, not y
abbrev pub four_clauses : Problem
four_clauses =
    record {
      vars = 2;
      groups = 4;
      clauses = in_group 1 (pos 1 ∷ []) ∷ in_group 2 (negsuc 0 ∷ []) ∷ in_group 3 (negsuc 0 ∷ pos 2 ∷ []) ∷ in_group 4 (negsuc 1 ∷ []) ∷ [];
    }

pub four_clauses_conflicts : conflicts four_clauses ≡ (1 ∷ 2 ∷ []) ∷ (1 ∷ 3 ∷ 4 ∷ []) ∷ []
unfolding conflicts is_conflict is_sat
four_clauses_conflicts = refl

pub four_clauses_corrections : corrections four_clauses ≡ (1 ∷ []) ∷ (2 ∷ 3 ∷ []) ∷ (2 ∷ 4 ∷ []) ∷ []
unfolding corrections is_correction is_sat
four_clauses_corrections = refl

-- three clashing pairs
abbrev pub clashing_pairs : Problem
clashing_pairs =
    record {
      vars = 3;
      groups = 6;
      clauses =
          in_group 1 (pos 1 ∷ []) ∷ in_group 2 (negsuc 0 ∷ []) ∷ in_group 3 (pos 2 ∷ []) ∷ in_group 4 (negsuc 1 ∷ [])
          ∷ in_group 5 (pos 3 ∷ []) ∷ in_group 6 (negsuc 2 ∷ []) ∷ [];
    }

pub clashing_pairs_conflicts : conflicts clashing_pairs ≡ (1 ∷ 2 ∷ []) ∷ (3 ∷ 4 ∷ []) ∷ (5 ∷ 6 ∷ []) ∷ []
unfolding conflicts is_conflict is_sat
clashing_pairs_conflicts = refl

pub clashing_pairs_corrections :
    corrections clashing_pairs
    ≡ (1 ∷ 3 ∷ 5 ∷ []) ∷ (1 ∷ 3 ∷ 6 ∷ []) ∷ (1 ∷ 4 ∷ 5 ∷ []) ∷ (1 ∷ 4 ∷ 6 ∷ []) ∷ (2 ∷ 3 ∷ 5 ∷ []) ∷ (2 ∷ 3 ∷ 6 ∷ []) ∷ (2 ∷ 4 ∷ 5 ∷ []) ∷ (2 ∷ 4 ∷ 6 ∷ []) ∷ []
unfolding corrections is_correction is_sat
clashing_pairs_corrections = refl
