-- How a log lays its steps out: first the given clauses that it shows, and then its own steps, of each the literals and hints
-- under its id, and beside them its kind, and how many inputs there are up to it. The marks lie apart, each with the number of
-- the steps before it.
use Rattle.std.specs.Prelude.{◌≡◌, ℕ, ◌+◌, ◌-◌, ◌<◌, ◌≤◌, ◌^◌, List, [], ◌∷◌, ◌++◌, length, map, take, drop, slice_index_or}
use Rattle.sat_base.specs.Derivation.{Step}
use Rattle.lrat_steps.specs.declared.step.StepKind.TheVariants as step_kind
use Rattle.lrat_steps.specs.declared.log.StepRecord.{StepRecord}
use Rattle.lrat_steps.specs.declared.log.Mark.{Mark}
use Rattle.lrat_steps.specs.declared.log.Log.TheInside.{Inside}
use Rattle.lrat_steps.specs.Log.{LogStep, Input, Forgot, inputs_of, learned_count}
use Rattle.lrat_steps.specs.Forgetting.{live_count}
use Rattle.lrat_steps.specs.Parts.{step_with}

-- the step of a record
abbrev pub step_of_record : StepRecord → Step → LogStep
step_of_record r s = step_with r.kind s.lits s.hints

abbrev pub steps_with : List StepRecord → List Step → List LogStep
steps_with [] steps = []
steps_with (r ∷ records) [] = []
steps_with (r ∷ records) (s ∷ steps) = step_of_record r s ∷ steps_with records steps

-- the steps, without the marks
abbrev pub all_steps : Inside → List LogStep
all_steps log = map Input log.shown ++ steps_with log.records.items log.steps

-- how many there are
abbrev pub step_count : Inside → ℕ
step_count log = length log.shown + length log.records.items

-- the steps behind the first `done`, with the marks among them
abbrev pub woven : ℕ → List Mark → List LogStep → List LogStep
woven done [] steps = steps
woven done (m ∷ marks) steps = take (m.steps - done) steps ++ Forgot m.id ∷ woven m.steps marks (drop (m.steps - done) steps)

abbrev pub log_of : Inside → List LogStep
log_of log = woven 0 log.marks.items (all_steps log)

-- the marks come in order, from behind `done` steps up to behind `last`
abbrev pub AreInOrder : ℕ → ℕ → List Mark → Type 0
AreInOrder done last [] = done ≤ last
AreInOrder done last (m ∷ marks) = (done ≤ m.steps) × AreInOrder m.steps last marks

-- the step stands under its id, and an input has no hints
pub record IsRecord (id : ℕ) (r : StepRecord) (s : Step) : Type 0 where
  pub named : s.id ≡ id
  pub no_hints : r.kind ≡ step_kind.Input → s.hints ≡ []

-- there is a record for each step, and the ids rise from the first one
abbrev pub AreRecords : ℕ → List StepRecord → List Step → Type 0
AreRecords id [] steps = steps ≡ []
AreRecords id (r ∷ records) [] = ⊥
AreRecords id (r ∷ records) (s ∷ steps) = IsRecord id r s × AreRecords (id + 1) records steps

-- each record, behind so many steps, has the number of the inputs up to its step
abbrev pub AreCounted : ℕ → List LogStep → List StepRecord → Type 0
AreCounted before log records =
    (at : ℕ) (d : StepRecord) → at < length records → (slice_index_or records at d).inputs ≡ length (inputs_of (take (before + at + 1) log))

pub record IsLaidOut (log : Inside) : Type 0 where
  pub records : AreRecords (length log.shown + 1) log.records.items log.steps
  pub counted : AreCounted (length log.shown) (all_steps log) log.records.items
  pub inputs : log.inputs ≡ length (inputs_of (all_steps log))
  pub learned : log.learned ≡ learned_count (all_steps log)
  pub few : step_count log < 2 ^ 32
  pub counts : log.inputs + log.learned ≤ step_count log
  pub marks : AreInOrder 0 (step_count log) log.marks.items
  pub live : log.live ≡ live_count (log_of log)
  pub most_live : log.live ≤ log.learned
