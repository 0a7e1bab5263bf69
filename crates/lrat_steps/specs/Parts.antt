-- Steps by their parts.
use Rattle.std.specs.Prelude.{ℕ, List, ℤ}
use Rattle.lrat_steps.specs.declared.step.StepKind.{StepKind}
use Rattle.lrat_steps.specs.declared.step.StepKind.TheVariants as step_kind
use Rattle.lrat_steps.specs.Log.{LogStep, Input, Learned, Core}

-- a step of this kind
abbrev pub step_with : StepKind → List ℤ → List ℕ → LogStep
step_with step_kind.Input lits hints = Input lits
step_with step_kind.Learned lits hints = Learned lits hints
step_with step_kind.Core lits hints = Core lits hints

-- how many inputs a step of this kind is
abbrev pub inputs_in : StepKind → ℕ
inputs_in step_kind.Input = 1
inputs_in step_kind.Learned = 0
inputs_in step_kind.Core = 0

-- and how many learnt clauses
abbrev pub learned_in : StepKind → ℕ
learned_in step_kind.Input = 0
learned_in step_kind.Learned = 1
learned_in step_kind.Core = 0
