-- What the answers of a solver mean (incremental SAT under assumed literals: Eén and Sörensson 2003).
use Rattle.std.specs.Prelude.{◌≡◌, ℕ, ◌-◌, ◌<◌, Bool, true, false, List, ℤ, neg_ℤ, length, Some, slice_get, slice_index_or}
use Rattle.sat_base.specs.Members.{In}
use Rattle.sat_base.specs.Literals.{literal_true, clause_true}
use Rattle.lrat_steps.specs.Log.{LogStep, Core, steps_of, db_of, inputs_of}
use Rattle.lrat_steps.specs.Honest.{IsHonest}
use Rattle.lrat_steps.specs.Paid.{IsPaid}
use Rattle.lrat_steps.specs.Undecided.{Undecided}
use Rattle.cdcl_core.specs.declared.solved.Solved.{Solved}
use Rattle.cdcl_core.specs.declared.solved.Solved.TheVariants as solved

-- no literal together with its negation
abbrev pub IsConsistent : List ℤ → Type 0
IsConsistent lits = (l : ℤ) → In l lits → ¬ In (neg_ℤ l) lits

-- one truth value for each variable, which makes each clause and each assumed literal true
pub record IsModel (vars : ℕ) (clauses : List (List ℤ)) (assumed : List ℤ) (assign : List Bool) : Type 0 where
  pub total : length assign ≡ vars
  pub clauses_true : (c : List ℤ) → In c clauses → clause_true assign c ≡ true
  pub assumed_true : (l : ℤ) → In l assumed → literal_true assign l ≡ true

-- the step of this id is a core of negated assumed literals only
pub record IsRefuted (log : List LogStep) (assumed : List ℤ) (id : ℕ) : Type 0 where
  pub lits : List ℤ
  pub hints : List ℕ
  pub from_one : 0 < id
  pub step : slice_get (steps_of log) (id - 1) ≡ Some (Core lits hints)
  pub negated : (l : ℤ) → In l lits → In (neg_ℤ l) assumed

-- what the answer says, with so many units left
abbrev pub Tells : ℕ → List LogStep → List ℤ → ℕ → Solved → Type 0
Tells vars log assumed left (solved.Sat assign) = IsModel vars (inputs_of log) assumed assign
Tells vars log assumed left (solved.Unsat id) = IsRefuted log assumed id
Tells vars log assumed left solved.Dry = (left ≡ 0) × Undecided (db_of log) assumed

-- the one assignment makes no variable true that the other does not
abbrev pub IsBelow : List Bool → List Bool → Type 0
IsBelow low high = (index : ℕ) → slice_index_or low index false ≡ true → slice_index_or high index false ≡ true

-- no assignment that makes each clause true has all true variables of this one, and more
abbrev pub IsGreatestModel : ℕ → List (List ℤ) → List Bool → Type 0
IsGreatestModel vars clauses assign =
    (other : List Bool)
    → length other ≡ vars
    → ((c : List ℤ) → In c clauses → clause_true other c ≡ true)
    → IsBelow assign other
    → IsBelow other assign

-- where the answer is an assignment, it is a greatest one
abbrev pub IsGreatest : ℕ → List LogStep → Solved → Type 0
IsGreatest vars log (solved.Sat assign) = IsGreatestModel vars (inputs_of log) assign
IsGreatest vars log (solved.Unsat id) = Unit {0}
IsGreatest vars log solved.Dry = Unit {0}

-- what was learnt is paid, and the log is honest
pub record IsHonestlyPaid (old new : List LogStep) (before left : ℕ) : Type 0 where
  pub paid : IsPaid old new before left
  pub honest : IsHonest new
