-- Derivations that hold only what their goal needs.
use Rattle.std.specs.Prelude.{◌≡◌, ◌⊎◌, ℕ, ◌+◌, true, List, [], ◌∷◌, map, length, ℤ, Some}
use Rattle.std.specs.List.{range_with_len}
use Rattle.sat_base.specs.Members.{In}
use Rattle.sat_base.specs.Literals.{AreLiterals}
use Rattle.sat_base.specs.Derivation.{Step, Derivation, is_derivation, clause_of, all_known}
use Rattle.lrat_steps.specs.Log.{LogStep, inputs_of}

-- the step is the goal, or a hint of a later one
abbrev pub AreNeeded : ℕ → List Step → Type 0
AreNeeded goal [] = Unit {0}
AreNeeded goal (s ∷ ss) = ((s.id ≡ goal) ⊎ ((t : Step) × In t ss × In s.id t.hints)) × AreNeeded goal ss

-- a derivation, over the clauses that were given, of the clause of a step; its steps are numbered on from these clauses
pub record IsTrimmed (log : List LogStep) (lits : List ℤ) (d : Derivation) : Type 0 where
  pub derives : (vars : ℕ) → ((c : List ℤ) → In c (inputs_of log) → AreLiterals vars c) → is_derivation vars (inputs_of log) d ≡ true
  pub goal : clause_of (all_known (inputs_of log) d.steps) d.goal ≡ Some lits
  pub needed : AreNeeded d.goal d.steps
  pub numbers : map (λ (s : Step). s.id) d.steps ≡ range_with_len (length (inputs_of log) + 1) (length d.steps)
