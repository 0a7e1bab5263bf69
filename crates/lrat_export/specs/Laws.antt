-- What is exported is a refutation, by whomever the evidence was made.
use Rattle.std.specs.Prelude.{◌≡◌, ℕ, ◌+◌, true, List, [], ◌∷◌, ◌++◌, length, ℤ}
use Rattle.sat_base.specs.Derivation.{Step, Derivation, is_derivation}
use Rattle.gm_base.specs.Problem.{Problem, IsProblem}
use Rattle.gm_base.specs.Evidence.{refutes}
use Rattle.gm_base.specs.Sets.{IsGroupSet}
use Rattle.lrat_export.specs.Cnf.{clauses_of}
use Rattle.lrat_export.specs.Export.{exported}

-- steps that are a derivation over these clauses, at least one, of which the last is the empty clause
pub record IsRefutation (vars : ℕ) (clauses : List (List ℤ)) (steps : List Step) : Type 0 where
  pub derives : is_derivation vars clauses (record { steps = steps; goal = length clauses + length steps }) ≡ true
  pub last_is_empty : (before : List Step) × (last : Step) × (steps ≡ before ++ last ∷ []) × (last.lits ≡ [])

-- the export of a proof that refutes a set is one of its clauses
abbrev pub ExportedRefutes : Type 0
ExportedRefutes =
    (p : Problem) (set : List ℕ) (d : Derivation)
    → IsProblem p
    → IsGroupSet set
    → refutes p set d ≡ true
    → IsRefutation p.vars (clauses_of p set) (exported p set d)
