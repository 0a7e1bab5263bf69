-- What a map engine tells, and what its answers say (MARCO: Liffiton, Previti, Malik and Marques-Silva 2016).
use Rattle.std.specs.Prelude.{◌≡◌, ◌↔◌, ℕ, Bool, true, false, List, [], ◌∷◌, ◌++◌, length, map}
use Rattle.std.specs.List.{list_all}
use Rattle.sat_base.specs.Literals.{clause_true}
use Rattle.gm_base.specs.Sets.{IsProperSubset}
use Rattle.gm_base.specs.Explored.{Found, is_explored, block_clause, groups_true, IsUnexplored, AllExplored}
use Rattle.sat_base.specs.Derivation.{Derivation, derives_within}
use Rattle.lrat_steps.specs.Log.{LogStep, Input, db_of, inputs_of}
use Rattle.lrat_steps.specs.Honest.{IsHonest}
use Rattle.lrat_steps.specs.Paid.{IsPaid}
use Rattle.lrat_steps.specs.Undecided.{Undecided}
use Rattle.evidence_rec.specs.declared.engine.Seed.{Seed}
use Rattle.evidence_rec.specs.declared.engine.Seed.TheVariants as seed

pub record EngineState : Type 0 where
  pub groups : ℕ
  -- the blocks given to it, in order
  pub blocks : List Found
  pub log : List LogStep
  -- an answer was that no set is left
  pub exhausted : Bool

-- an engine that was given no block
abbrev pub new_engine : ℕ → EngineState
new_engine groups = record { groups = groups; blocks = []; log = []; exhausted = false }

-- one block more: its clause is an input of the log, and all else is as before
abbrev pub blocked : EngineState → Found → EngineState
blocked e f = record e { blocks = e.blocks ++ f ∷ []; log = e.log ++ Input (block_clause f) ∷ [] }

-- no unexplored set properly holds this one
abbrev pub IsTop : ℕ → List Found → List ℕ → Type 0
IsTop groups found set = (other : List ℕ) → IsUnexplored groups found other → ¬ IsProperSubset set other

-- a set that nothing explores; of an engine that gives tops alone, a top
pub record IsSeed (tops : Bool) (groups : ℕ) (found : List Found) (set : List ℕ) : Type 0 where
  pub unexplored : IsUnexplored groups found set
  pub top : tops ≡ true → IsTop groups found set

-- what an answer says, with so many units left: a seed; that each set is explored; or that the purse is empty and the search
-- stands before a conflict
abbrev pub TellsSeed : Bool → EngineState → ℕ → Seed → Type 0
TellsSeed tops e left (seed.Set set) = IsSeed tops e.groups e.blocks set
TellsSeed tops e left seed.Empty = AllExplored e.groups e.blocks
TellsSeed tops e left seed.Dry = (left ≡ 0) × Undecided (db_of e.log) []

abbrev pub is_empty : Seed → Bool
is_empty (seed.Set set) = false
is_empty seed.Empty = true
is_empty seed.Dry = false

-- what a search does: groups and blocks stay, and what was learnt is paid
pub record IsSearched (old new : EngineState) (before left : ℕ) : Type 0 where
  pub groups : new.groups ≡ old.groups
  pub blocks : new.blocks ≡ old.blocks
  pub paid : IsPaid old.log new.log before left

-- the log is honest, over the block clauses in the order given
pub record IsHonestMap (blocks : List Found) (log : List LogStep) : Type 0 where
  pub inputs : inputs_of log ≡ map block_clause blocks
  pub honest : IsHonest log

-- the models of the clauses that were given, read as sets, are exactly the sets that nothing explores
abbrev pub HasModels : EngineState → Type 0
HasModels e =
    (assign : List Bool)
    → length assign ≡ e.groups
    → ((list_all (clause_true assign) (inputs_of e.log) ≡ true) ↔ (is_explored e.blocks (groups_true assign) ≡ false))

-- a derivation of the empty clause from the block clauses: no set is left
abbrev pub shows_all_explored : ℕ → List Found → Derivation → Bool
shows_all_explored groups found d = derives_within groups (map block_clause found) d (λ l. false)
