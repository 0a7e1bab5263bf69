-- Worked exports of the two conflicts of gm_base's four clauses, and of an empty clause in the background, computed from the
-- definitions. The wanted clauses and steps were worked out by hand.
use Rattle.std.specs.Prelude.{◌≡◌, [], ◌∷◌, pos, negsuc}
use Rattle.std.proofs.Common.{refl}
use Rattle.sat_base.specs.Derivation.{Derivation}
use Rattle.gm_base.specs.Problem.{Problem}
use Rattle.gm_base.specs.Rows.{in_group, four_clauses}
use Rattle.gm_base.specs.EvidenceRows.{first_proof, second_proof}
use Rattle.lrat_export.specs.Cnf.{clauses_of}
use Rattle.lrat_export.specs.Export.{exported}

-- x and not x
pub first_clauses : clauses_of four_clauses (1 ∷ 2 ∷ []) ≡ (pos 1 ∷ []) ∷ (negsuc 0 ∷ []) ∷ []
first_clauses = refl

pub first_steps : exported four_clauses (1 ∷ 2 ∷ []) first_proof ≡ record { id = 3; lits = []; hints = 1 ∷ 2 ∷ [] } ∷ []
first_steps = refl

-- x, x implies y, and not y, which have the numbers 1 to 3
pub second_clauses : clauses_of four_clauses (1 ∷ 3 ∷ 4 ∷ []) ≡ (pos 1 ∷ []) ∷ (negsuc 0 ∷ pos 2 ∷ []) ∷ (negsuc 1 ∷ []) ∷ []
second_clauses = refl

pub second_steps : exported four_clauses (1 ∷ 3 ∷ 4 ∷ []) second_proof ≡ record { id = 4; lits = []; hints = 1 ∷ 2 ∷ 3 ∷ [] } ∷ []
second_steps = refl

-- the step 7 says that group 1 or group 2 is left out, which is true here, so it goes; and so does what stands behind the
-- goal
abbrev pub long_proof : Derivation
long_proof =
    record {
      steps =
          record { id = 7; lits = negsuc 2 ∷ negsuc 3 ∷ []; hints = 1 ∷ 2 ∷ [] }
          ∷ record { id = 9; lits = negsuc 2 ∷ negsuc 4 ∷ negsuc 5 ∷ []; hints = 1 ∷ 3 ∷ 4 ∷ [] }
          ∷ record { id = 12; lits = negsuc 2 ∷ negsuc 4 ∷ negsuc 5 ∷ negsuc 3 ∷ []; hints = 7 ∷ 9 ∷ [] } ∷ [];
      goal = 9;
    }

pub long_steps : exported four_clauses (1 ∷ 3 ∷ 4 ∷ []) long_proof ≡ record { id = 4; lits = []; hints = 1 ∷ 2 ∷ 3 ∷ [] } ∷ []
long_steps = refl

-- one clause, which is empty, in the background
abbrev pub nothing_holds : Problem
nothing_holds = record { vars = 0; groups = 1; clauses = in_group 0 [] ∷ [] }

pub empty_clauses : clauses_of nothing_holds [] ≡ [] ∷ []
empty_clauses = refl

-- the proof's goal is that clause, and it has no steps
pub empty_steps : exported nothing_holds [] (record { steps = []; goal = 1 }) ≡ record { id = 2; lits = []; hints = 1 ∷ [] } ∷ []
empty_steps = refl
