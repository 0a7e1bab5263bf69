-- What the oracle keeps between questions, and what it tells.
use Rattle.std.specs.Prelude.{ℕ, List, Option, Some, None}
use Rattle.gm_base.specs.Problem.{Problem, IsProblem}
use Rattle.evidence_rec.specs.Asking.{OracleState, IsHonestOver}
use Rattle.known_sets.specs.declared.memory.Memory.{Memory}
use Rattle.known_sets.specs.declared.oracle.Last.{Last}
use Rattle.known_sets.specs.declared.oracle.Last.TheVariants as last
use Rattle.known_sets.specs.Entries.{IsRefuted}
use Rattle.known_sets.specs.Memory.{IsRightFor}

-- the set that the last answer left for a proof, where the oracle within left this one
abbrev pub refuted_set : Option (List ℕ) → Last → Option (List ℕ)
refuted_set within last.Nothing = None
refuted_set within (last.Known entry) = Some entry.set
refuted_set within last.Within = within

-- problem and log are those of the oracle within, the last refuted set and the number of questions its own
abbrev pub state_of : OracleState → Last → ℕ → OracleState
state_of within left asks = record within { refuted = refuted_set within.refuted left; asks = asks }

-- a kept refutation is right
abbrev pub IsProved : Problem → Last → Type 0
IsProved p last.Nothing = Unit {0}
IsProved p (last.Known entry) = IsRefuted p entry
IsProved p last.Within = Unit {0}

-- all that is kept is right for the problem of the oracle within
pub record IsKept (within : OracleState) (memory : Memory) (left : Last) : Type 0 where
  pub well_formed : IsProblem within.problem
  pub honest : IsHonestOver within.problem within.log
  pub right : IsRightFor within.problem memory
  pub proved : IsProved within.problem left
