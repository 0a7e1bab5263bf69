-- How the arenas of literals and hints are cut into steps: each step's span says where its own end, and they begin where
-- those of the span before it end.
use Rattle.std.specs.Prelude.{◌≡◌, ℕ, ◌≤◌, List, [], ◌∷◌, ℤ, slice_range}
use Rattle.sat_base.specs.Derivation.{Step, max_id}
use Rattle.sat_base.specs.declared.steps.StepSpan.{StepSpan}

-- what stands before the first span: nothing
abbrev pub start : StepSpan
start = record { id = 0; lits_to = 0; hints_to = 0 }

-- the step of a span behind another one
abbrev pub step_of : List ℤ → List ℕ → StepSpan → StepSpan → Step
step_of lits hints before s =
    record { id = s.id; lits = slice_range lits before.lits_to s.lits_to; hints = slice_range hints before.hints_to s.hints_to }

-- the steps of spans behind another one
abbrev pub steps_behind : List ℤ → List ℕ → StepSpan → List StepSpan → List Step
steps_behind lits hints before [] = []
steps_behind lits hints before (s ∷ spans) = step_of lits hints before s ∷ steps_behind lits hints s spans

-- a span ends where the one before it ends, or behind that, and its id is not too great
pub record IsBehind (before s : StepSpan) : Type 0 where
  pub lits : before.lits_to ≤ s.lits_to
  pub hints : before.hints_to ≤ s.hints_to
  pub id : s.id ≤ max_id

-- each span is behind the one before it, and the last one ends behind so many literals and hints
abbrev pub AreBehind : ℕ → ℕ → StepSpan → List StepSpan → Type 0
AreBehind lits hints before [] = (before.lits_to ≡ lits) × (before.hints_to ≡ hints)
AreBehind lits hints before (s ∷ spans) = IsBehind before s × AreBehind lits hints s spans
