-- The log of a solver: the clauses that it was given, the steps by which it derived others, and marks of what it forgot. The
-- id of a step is its place among the steps, from 1; a mark has none (LRAT: Cruz-Filipe, Heule, Hunt, Kaufmann and
-- Schneider-Kamp 2017).
use Rattle.std.specs.Prelude.{ℕ, ◌+◌, ◌-◌, Bool, true, false, List, [], ◌∷◌, ◌++◌, ℤ, slice_index_or}
use Rattle.sat_base.specs.Database.{StoredClause}
use Rattle.sat_base.specs.Forgotten.{forgotten}
use Rattle.lrat_steps.specs.declared.step.LogStep.TheVariants as log_step
use Rattle.lrat_steps.specs.declared.step.LogStep as declared
use Rattle.lrat_steps.specs.declared.step.StepKind.{StepKind}
use Rattle.lrat_steps.specs.declared.step.StepKind.TheVariants as step_kind

-- the steps, a clause that was given, a learnt clause or the core of an answer; and the mark that the clause of an id is
-- forgotten
pub data LogStep : Type 0 where
  Input : List ℤ → LogStep
  Learned : List ℤ → List ℕ → LogStep
  Core : List ℤ → List ℕ → LogStep
  Forgot : ℕ → LogStep

-- the step that a program hands over
abbrev pub step_of : declared.LogStep → LogStep
step_of (log_step.Input lits) = Input lits.now
step_of (log_step.Learned lits hints) = Learned lits.now hints.now
step_of (log_step.Core lits hints) = Core lits.now hints.now

-- a mark has no literals
abbrev pub lits_of : LogStep → List ℤ
lits_of (Input lits) = lits
lits_of (Learned lits hints) = lits
lits_of (Core lits hints) = lits
lits_of (Forgot id) = []

-- an input has no hints, nor has a mark
abbrev pub hints_of : LogStep → List ℕ
hints_of (Input lits) = []
hints_of (Learned lits hints) = hints
hints_of (Core lits hints) = hints
hints_of (Forgot id) = []

-- what a step is; nobody asks it of a mark
abbrev pub kind_of : LogStep → StepKind
kind_of (Input lits) = step_kind.Input
kind_of (Learned lits hints) = step_kind.Learned
kind_of (Core lits hints) = step_kind.Core
kind_of (Forgot id) = step_kind.Core

-- the steps of a log, without its marks
abbrev pub steps_of : List LogStep → List LogStep
steps_of [] = []
steps_of (Input lits ∷ log) = Input lits ∷ steps_of log
steps_of (Learned lits hints ∷ log) = Learned lits hints ∷ steps_of log
steps_of (Core lits hints ∷ log) = Core lits hints ∷ steps_of log
steps_of (Forgot id ∷ log) = steps_of log

-- the step of an id among steps, of which the first is 1
abbrev pub step_in : List LogStep → ℕ → LogStep
step_in steps id = slice_index_or steps (id - 1) (Input [])

abbrev pub step_at : List LogStep → ℕ → LogStep
step_at log id = step_in (steps_of log) id

-- a step's clause is live when it comes, but a core is there to be named by a hint alone
abbrev pub is_live : LogStep → Bool
is_live (Input lits) = true
is_live (Learned lits hints) = true
is_live (Core lits hints) = false
is_live (Forgot id) = false

abbrev pub stored : LogStep → StoredClause
stored s = record { lits = lits_of s; live = is_live s }

-- the clauses behind a step, whose own comes last, or behind a mark
abbrev pub db_after : List StoredClause → LogStep → List StoredClause
db_after db (Input lits) = db ++ stored (Input lits) ∷ []
db_after db (Learned lits hints) = db ++ stored (Learned lits hints) ∷ []
db_after db (Core lits hints) = db ++ stored (Core lits hints) ∷ []
db_after db (Forgot id) = forgotten db id

abbrev pub db_from : List StoredClause → List LogStep → List StoredClause
db_from db [] = db
db_from db (s ∷ log) = db_from (db_after db s) log

-- the clauses of the steps, in order, each live or not behind all of the log
abbrev pub db_of : List LogStep → List StoredClause
db_of log = db_from [] log

-- the clauses that were given, in order
abbrev pub inputs_of : List LogStep → List (List ℤ)
inputs_of [] = []
inputs_of (Input lits ∷ log) = lits ∷ inputs_of log
inputs_of (Learned lits hints ∷ log) = inputs_of log
inputs_of (Core lits hints ∷ log) = inputs_of log
inputs_of (Forgot id ∷ log) = inputs_of log

-- how many clauses were learnt, forgotten or not
abbrev pub learned_count : List LogStep → ℕ
learned_count [] = 0
learned_count (Input lits ∷ log) = learned_count log
learned_count (Learned lits hints ∷ log) = learned_count log + 1
learned_count (Core lits hints ∷ log) = learned_count log
learned_count (Forgot id ∷ log) = learned_count log
