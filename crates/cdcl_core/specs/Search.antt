-- What the steps of a search keep, and what each leads to.
use Rattle.std.specs.Prelude.{◌≡◌, ◌⊎◌, ℕ, ◌<◌, Bool, true, false, List, [], ◌∷◌, ◌++◌, ℤ, neg_ℤ, length, take, Option, Some, None}
use Rattle.sat_base.specs.Members.{In}
use Rattle.sat_base.specs.Literals.{IsLiteral}
use Rattle.sat_base.specs.Database.{StoredClause}
use Rattle.sat_base.specs.Units.{AllTrue, IsUnset, HasValue}
use Rattle.trail_book.specs.declared.entry.Entry.{Entry}
use Rattle.trail_book.specs.Trail.{trues, IsTouched}
use Rattle.trail_book.specs.Order.{IsPositive}
use Rattle.learn_step.specs.Learnt.{IsCore}
use Rattle.lrat_steps.specs.Log.{LogStep, Core}
use Rattle.propagate.specs.declared.propagated.Propagated.{Propagated}
use Rattle.propagate.specs.Propagation as propagation
use Rattle.propagate.specs.Watches.{IsKept}
use Rattle.cdcl_core.specs.declared.search.Search.{Search}
use Rattle.cdcl_core.specs.declared.solved.Solved.{Solved}
use Rattle.cdcl_core.specs.declared.decisions.Next.{Next}
use Rattle.cdcl_core.specs.declared.decisions.Next.TheVariants as next
use Rattle.cdcl_core.specs.Answers.{Tells, IsGreatest}
use Rattle.cdcl_core.specs.State.{IsState, ArePositive, IsRoot}

-- the state of a search under assumed literals, of which the first ones, so many, are true
pub record IsSearch (s : Search) (assumed : List ℤ) : Type 0 where
  pub vars : s.store.vars ≡ s.trail.vars
  pub kept : IsKept s.store s.trail
  pub state : IsState s.trail.vars s.store.clauses s.log s.trail.entries assumed s.assumed_levels
  pub reached : AllTrue (trues s.trail.entries) (take s.assumed_true assumed)
  pub positive : s.true_first ≡ true → ArePositive s.assumed_levels s.trail.entries

-- what is kept between calls: the state of a search under some assumed literals, at whatever level
pub record IsReady (s : Search) : Type 0 where
  pub assumed : List ℤ
  pub search : IsSearch s assumed

-- the state at level 0, whatever is assumed
pub record IsAtRoot (s : Search) : Type 0 where
  pub vars : s.store.vars ≡ s.trail.vars
  pub kept : IsKept s.store s.trail
  pub root : IsRoot s.trail.vars s.store.clauses s.log s.trail.entries

-- a core was added to the log and to the clauses, and has this id
pub record IsCoreAdded (old new : List StoredClause) (log more : List LogStep) (es : List Entry) (start : List ℤ) (id : ℕ) : Type 0 where
  pub lits : List ℤ
  pub hints : List ℕ
  pub core : IsCore old es start lits hints
  pub logged : more ≡ log ++ Core lits hints ∷ []
  pub stored : new ≡ old ++ record { lits = lits; live = false } ∷ []
  pub id_is : id ≡ length new

-- the same literals are true, and what propagation told of the clauses is still so
pub record KeepsValues (old new : Search) : Type 0 where
  pub trues_are : trues new.trail.entries ≡ trues old.trail.entries
  pub levels_are : new.assumed_levels ≡ old.assumed_levels
  pub reached_is : new.assumed_true ≡ old.assumed_true
  pub tells : (p : Propagated) → propagation.Tells old.store.clauses (trues old.trail.entries) p → propagation.Tells new.store.clauses (trues new.trail.entries) p
  pub all_done : (p : Propagated) → propagation.IsDone old.store old.trail p → propagation.IsDone new.store new.trail p

-- what is to be done where nothing is left to propagate; a literal is chosen of a touched variable, and positive where
-- that is asked for
abbrev pub IsNext : Bool → ℕ → List Bool → List ℤ → List ℤ → Next → Type 0
IsNext true_first vars touched assumed trues (next.Assume lit) = In lit assumed × IsUnset trues lit
IsNext true_first vars touched assumed trues (next.Failed lit) = In lit assumed × In (neg_ℤ lit) trues
IsNext true_first vars touched assumed trues (next.Choose lit) = AllTrue trues assumed × IsUnset trues lit × IsLiteral vars lit × (true_first ≡ true → IsPositive lit) × IsTouched touched lit
IsNext true_first vars touched assumed trues next.Full = AllTrue trues assumed × ((lit : ℤ) → IsLiteral vars lit → IsTouched touched lit → HasValue trues lit)

-- a round that goes on has paid a unit, or one more variable has a value
pub record GoesOn (old new : Search) (assumed : List ℤ) (before left : ℕ) : Type 0 where
  pub search : IsSearch new assumed
  pub progress : (left < before) ⊎ ((left ≡ before) × (length old.trail.entries < length new.trail.entries))

-- a round that ends has an answer
pub record Ends (new : Search) (assumed : List ℤ) (left : ℕ) (answer : Solved) : Type 0 where
  pub search : IsSearch new assumed
  pub says : Tells new.trail.vars new.log assumed left answer
  pub greatest : new.true_first ≡ true → assumed ≡ [] → IsGreatest new.trail.vars new.log answer

abbrev pub IsRound : Search → Search → List ℤ → ℕ → ℕ → Option Solved → Type 0
IsRound old new assumed before left None = GoesOn old new assumed before left
IsRound old new assumed before left (Some answer) = Ends new assumed left answer
