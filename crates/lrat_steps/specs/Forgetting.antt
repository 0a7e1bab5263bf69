-- Which learnt clauses a solver may forget, and when (deletion of learnt clauses: MiniSat, Eén and Sörensson 2003; the mark
-- is what LRAT's deletion lines are).
use Rattle.std.specs.Prelude.{◌≡◌, ℕ, ◌+◌, ◌/◌, ◌<◌, ◌≤◌, Bool, true, false, List, [], ◌∷◌, length}
use Rattle.sat_base.specs.Database.{StoredClause}
use Rattle.sat_base.specs.Forgotten.{named}
use Rattle.lrat_steps.specs.declared.step.StepKind.TheVariants as step_kind
use Rattle.lrat_steps.specs.Log.{LogStep, Input, Learned, Core, Forgot, kind_of, steps_of, step_at, db_of, learned_count}

-- the id of a learnt clause that is live
pub record IsLiveLearned (log : List LogStep) (id : ℕ) : Type 0 where
  pub from_one : 0 < id
  pub within : id ≤ length (steps_of log)
  pub learned : kind_of (step_at log id) ≡ step_kind.Learned
  pub live : (named (db_of log) id).live ≡ true

abbrev pub one_if : Bool → ℕ
one_if true = 1
one_if false = 0

-- how many of these steps are learnt clauses that are live among these clauses
abbrev pub live_among : List LogStep → List StoredClause → ℕ
live_among [] db = 0
live_among (s ∷ steps) [] = 0
live_among (Learned lits hints ∷ steps) (c ∷ db) = live_among steps db + one_if c.live
live_among (Input lits ∷ steps) (c ∷ db) = live_among steps db
live_among (Core lits hints ∷ steps) (c ∷ db) = live_among steps db
live_among (Forgot id ∷ steps) (c ∷ db) = live_among steps db

-- how many learnt clauses are live behind all of the log
abbrev pub live_count : List LogStep → ℕ
live_count log = live_among (steps_of log) (db_of log)

-- of so many learnt clauses so many are live that one may be forgotten: more than 2,000 and a quarter, rounded down
abbrev pub MayForget : ℕ → ℕ → Type 0
MayForget live learned = 2000 + learned / 4 < live

-- a mark may stand here
pub record IsForgettable (earlier : List LogStep) (id : ℕ) : Type 0 where
  pub live : IsLiveLearned earlier id
  pub enough : MayForget (live_count earlier) (learned_count earlier)
