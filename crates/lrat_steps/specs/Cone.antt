-- The steps that the clause of a step needs, and their numbers in a derivation of it. All is said of the steps of a log
-- without its marks: a step that was forgotten may be needed still.
use Rattle.std.specs.Prelude.{◌≡◌, ◌⊎◌, ◌↔◌, ℕ, ◌+◌, ◌<◌, ◌≤◌, Bool, true, false, List, [], ◌∷◌, map, length, take, ℤ, if◌then◌else◌}
use Rattle.sat_base.specs.Members.{In}
use Rattle.sat_base.specs.Derivation.{Step, Derivation}
use Rattle.sat_base.specs.Numbering.{Ascends, place_in}
use Rattle.lrat_steps.specs.Log.{LogStep, Input, Learned, Core, Forgot, lits_of, hints_of, step_in, inputs_of}

abbrev pub is_input : LogStep → Bool
is_input (Input lits) = true
is_input (Learned lits hints) = false
is_input (Core lits hints) = false
is_input (Forgot id) = false

abbrev pub lits_at : List LogStep → ℕ → List ℤ
lits_at steps id = lits_of (step_in steps id)

abbrev pub hints_at : List LogStep → ℕ → List ℕ
hints_at steps id = hints_of (step_in steps id)

abbrev pub is_input_at : List LogStep → ℕ → Bool
is_input_at steps id = is_input (step_in steps id)

-- how many inputs there are up to a step
abbrev pub inputs_up_to : List LogStep → ℕ → ℕ
inputs_up_to steps id = length (inputs_of (take id steps))

-- the hints of each step name earlier ones
abbrev pub IsBackward : List LogStep → Type 0
IsBackward steps = (id : ℕ) → 0 < id → id ≤ length steps → (h : ℕ) → In h (hints_at steps id) → (0 < h) × (h < id)

-- the id of a step that was derived
pub record IsDerivedId (steps : List LogStep) (id : ℕ) : Type 0 where
  pub from_one : 0 < id
  pub within : id ≤ length steps
  pub derived : is_input_at steps id ≡ false

-- of these ids, those of derived steps were put in
abbrev pub PutsDerived : List LogStep → List ℕ → List ℕ → List ℕ → Type 0
PutsDerived steps old ids new = (m : ℕ) → In m new ↔ (In m old ⊎ (In m ids × (is_input_at steps m ≡ false)))

-- an input, or one of these ids
abbrev pub IsReached : List LogStep → List ℕ → ℕ → Type 0
IsReached steps ids id = (is_input_at steps id ≡ true) ⊎ In id ids

-- each id is the goal, or a hint of a later one
abbrev pub AreNeededIds : List LogStep → ℕ → List ℕ → Type 0
AreNeededIds steps goal [] = Unit {0}
AreNeededIds steps goal (x ∷ xs) = ((x ≡ goal) ⊎ ((y : ℕ) × In y xs × In x (hints_at steps y))) × AreNeededIds steps goal xs

-- ascending ids of derived steps
pub record AreDerivedIds (steps : List LogStep) (ids : List ℕ) : Type 0 where
  pub ascends : Ascends ids
  pub derived : (id : ℕ) → In id ids → IsDerivedId steps id

-- the derived steps that a goal needs, and no other
pub record IsCone (steps : List LogStep) (goal : ℕ) (ids : List ℕ) : Type 0 where
  pub derived : AreDerivedIds steps ids
  pub goal_reached : IsReached steps ids goal
  pub hints_reached : (id : ℕ) → In id ids → (h : ℕ) → In h (hints_at steps id) → IsReached steps ids h
  pub needed : AreNeededIds steps goal ids

-- the number of a step's clause: an input's among the inputs, and that of a derived step on from them
abbrev pub number_in : List LogStep → List ℕ → ℕ → ℕ
number_in steps ids id = if is_input_at steps id then inputs_up_to steps id else length (inputs_of steps) + 1 + place_in ids id

abbrev pub trimmed_step : List LogStep → List ℕ → ℕ → Step
trimmed_step steps ids id = record { id = number_in steps ids id; lits = lits_at steps id; hints = map (number_in steps ids) (hints_at steps id) }

-- a step as the log keeps it
abbrev pub kept_at : List LogStep → ℕ → Step
kept_at steps id = record { id = id; lits = lits_at steps id; hints = hints_at steps id }

-- the inputs are the first steps
abbrev pub InputsComeFirst : List LogStep → Type 0
InputsComeFirst steps = inputs_up_to steps (length (inputs_of steps)) ≡ length (inputs_of steps)

-- the derivation of a goal's clause by these steps
abbrev pub trimmed : List LogStep → ℕ → List ℕ → Derivation
trimmed steps goal ids = record { steps = map (trimmed_step steps ids) ids; goal = number_in steps ids goal }
