-- What a checker of records begins each proof with.
use Rattle.std.specs.Prelude.{◌≡◌, ℕ, ◌+◌, ◌≤◌, List, length, take, ℤ, Option, Some, None}
use Rattle.gm_base.specs.Sets.{without, complement}
use Rattle.gm_base.specs.Problem.{Problem}
use Rattle.sat_base.specs.Derivation.{numbered}
use Rattle.gm_base.specs.Evidence.{selector_form}
use Rattle.lrat_check.specs.State.{State}

-- how many variables there are, and clauses over them under their ids
pub record Basis : Type 0 where
  pub vars : ℕ
  pub known : List (ℕ × List ℤ)

-- the variables and the selectors of a problem, and its clauses with their selectors
abbrev pub basis_of : Problem → Basis
basis_of p = record { vars = p.vars + p.groups; known = numbered 1 (selector_form p) }

-- the variables of a checker of steps, and the clauses that it was given
abbrev pub given_to : State → Basis
given_to s = record { vars = s.vars; known = take s.inputs s.known }

-- it was given this basis, and holds it still
pub record Begins (b : Basis) (s : State) : Type 0 where
  pub given : given_to s ≡ b
  pub within : s.inputs ≤ length s.known

-- the set that a proof has to refute: that of a conflict, or the groups outside a correction together with one of its own
abbrev pub refuted_set : ℕ → List ℕ → Option ℕ → List ℕ
refuted_set groups set None = set
refuted_set groups set (Some g) = complement groups (without set g)
