-- What an oracle tells, and what its answers say.
use Rattle.std.specs.Prelude.{◌≡◌, ℕ, ◌+◌, ◌-◌, ◌^◌, min, true, List, map, ℤ, pos, Option, Some, None}
use Rattle.gm_base.specs.Sets.{IsSubset, IsGroupSet, all_groups}
use Rattle.gm_base.specs.Problem.{Problem, Sat}
use Rattle.gm_base.specs.Evidence.{selector_form, is_witness}
use Rattle.lrat_steps.specs.Log.{LogStep, db_of, inputs_of}
use Rattle.lrat_steps.specs.Honest.{IsHonest}
use Rattle.lrat_steps.specs.Paid.{IsPaid}
use Rattle.lrat_steps.specs.Undecided.{Undecided}
use Rattle.evidence_rec.specs.declared.oracle.Asked.{Asked}
use Rattle.evidence_rec.specs.declared.oracle.Asked.TheVariants as asked

pub record OracleState : Type 0 where
  pub problem : Problem
  pub log : List LogStep
  -- the set of the last answer, where that was that it is unsatisfiable
  pub refuted : Option (List ℕ)
  -- how many questions there were, up to the greatest u64
  pub asks : ℕ

-- the literals that switch on these groups
abbrev pub selectors : Problem → List ℕ → List ℤ
selectors p set = map (λ g. pos (p.vars + g)) set

-- what an answer about a set says, with so many units left: an assignment that satisfies background and set; a part of the
-- set that is unsatisfiable already; or that the purse is empty and the search stands before a conflict
abbrev pub TellsAsked : OracleState → List ℕ → ℕ → Asked → Type 0
TellsAsked o set left (asked.Sat assign) = is_witness o.problem set assign ≡ true
TellsAsked o set left (asked.Unsat core) = IsGroupSet core × IsSubset core set × (¬ Sat o.problem core)
TellsAsked o set left asked.Dry = (left ≡ 0) × Undecided (db_of o.log) (selectors o.problem set)

-- a set of groups that was asked about, at which the purse was empty and the search stood before a conflict
pub record IsDryAt (o : OracleState) (set : List ℕ) (left : ℕ) : Type 0 where
  pub is_set : IsGroupSet set
  pub within : IsSubset set (all_groups o.problem.groups)
  pub empty : left ≡ 0
  pub undecided : Undecided (db_of o.log) (selectors o.problem set)

-- the set that an answer leaves for a proof
abbrev pub refuted_by : Asked → Option (List ℕ)
refuted_by (asked.Sat assign) = None
refuted_by (asked.Unsat core) = Some core
refuted_by asked.Dry = None

-- what questions do to the problem, the log and the purse: the problem stays, and what was learnt is paid
pub record IsSpent (old new : OracleState) (before left : ℕ) : Type 0 where
  pub problem : new.problem ≡ old.problem
  pub paid : IsPaid old.log new.log before left

-- the log is honest, over the clauses with their selectors
pub record IsHonestOver (p : Problem) (log : List LogStep) : Type 0 where
  pub inputs : inputs_of log ≡ selector_form p
  pub honest : IsHonest log

-- one question more
abbrev pub asked_once : ℕ → ℕ
asked_once asks = min (asks + 1) (2 ^ 64 - 1)
