-- What a core keeps between calls.
use Rattle.std.specs.Prelude.{◌≡◌, ℕ, ◌+◌, ◌-◌, ◌<◌, ◌≤◌, ◌^◌, Bool, true, false, List, [], ◌∷◌, ◌++◌, length, take, Option, MatchOption}
use Rattle.gm_base.specs.Problem.{Problem}
use Rattle.gm_base.specs.Explored.{Found}
use Rattle.sat_base.specs.Derivation.{Derivation}
use Rattle.lrat_steps.specs.Log.{LogStep, db_of, learned_count}
use Rattle.lrat_steps.specs.Undecided.{Undecided}
use Rattle.evidence_rec.specs.declared.record.Record.{Record}
use Rattle.evidence_rec.specs.Records.{founds}
use Rattle.evidence_rec.specs.Seeding.{EngineState, IsHonestMap, shows_all_explored}
use Rattle.map_core.specs.declared.entry.Call.{Call}
use Rattle.map_core.specs.declared.entry.Call.TheVariants.{Take}
use Rattle.map_core.specs.declared.entry.Reply.{Reply}
use Rattle.map_core.specs.declared.entry.Reply.TheVariants.{Dry}
use Rattle.map_core.specs.declared.entry.Entry.{Entry}
use Rattle.map_core.specs.declared.turn.Worker.{Worker}
use Rattle.map_core.specs.declared.common.Common.{Common}
use Rattle.map_core.specs.declared.entry.Goal.{Goal}
use Rattle.evidence_rec.specs.declared.held.Held.{Held}
use Rattle.map_core.specs.declared.tally.Tally.{Tally}
use Rattle.map_core.specs.Core.{State, CoreStep, IsReached, worker_at}
use Rattle.map_core.specs.Own.{engine_used_in}
use Rattle.map_core.specs.Sound.{IsOpening, live_count}
use Rattle.evidence_rec.specs.Index.{IsIndex}
use Rattle.map_core.specs.Tallies.{Tallies}

-- the state that these parts make; the opening's records are the first ones
abbrev pub state_of : Bool → Goal → Problem → ℕ → ℕ → ℕ → Common → List Record → List Worker → List Entry → State
state_of tops goal problem first budget limit common records workers history =
    record {
      opening = record { problem = problem; records = take first records; workers = length workers; budget = budget; limit = limit; goal = goal; tops = tops };
      records = records;
      workers = workers;
      available = common.available;
      spent = common.spent;
      exhausted = common.exhausted;
      settled = common.settled;
      limited = common.limited;
      stopped = common.stopped;
      history = history;
    }

-- a proof is kept exactly where exhausted is marked
abbrev pub KeepsProof : ℕ → List Found → Bool → Option Derivation → Type 0
KeepsProof groups found exhausted proof =
    MatchOption proof (exhausted ≡ false) (λ d. (exhausted ≡ true) × (shows_all_explored groups found d ≡ true))

-- where the last entry is a take that found the budget spent, the map's search stands before a conflict
abbrev pub StandsDry : List Entry → List LogStep → Type 0
StandsDry history log =
    (before : List Entry) (e : Entry) → history ≡ before ++ e ∷ [] → e.call ≡ Take → e.reply ≡ Dry → Undecided (db_of log) []

-- the engine has the blocks of the records, and has learnt as many clauses as the history says that it used
pub record IsDriven (s : State) (engine : EngineState) : Type 0 where
  pub same_groups : engine.groups ≡ s.opening.problem.groups
  pub same_blocks : engine.blocks ≡ founds s.records
  pub honest : IsHonestMap engine.blocks engine.log
  pub learned : learned_count engine.log ≡ engine_used_in s.history
  pub dry : StandsDry s.history engine.log

pub record IsKept (s : State) (first : ℕ) (capacity : ℕ) (held : Held) (tally : Tally) (engine : EngineState) (proof : Option Derivation) : Type 0 where
  pub opening : IsOpening s.opening
  pub reached : IsReached s
  pub begins : first ≤ length s.records
  pub small : s.opening.budget < 2 ^ 64
  -- room for one entry of each worker that has not ended
  pub room : length s.history + live_count s.workers ≤ capacity
  pub index : IsIndex held s.records
  pub tallies : Tallies s.opening.goal s.opening.problem.groups (founds s.records) tally
  pub keeps : KeepsProof s.opening.problem.groups (founds s.records) s.exhausted proof
  pub driven : IsDriven s engine

-- the call is one step, with its arguments and its reply
pub record Steps (old : State) (who : ℕ) (call : Call) (used : ℕ) (reply : Reply) (new : State) : Type 0 where
  pub engine : Option ℕ
  pub step : CoreStep old (record { worker = who; call = call; used = used; engine = engine; reply = reply }) new

-- what a call may use
pub record IsReady (s : State) (w used : ℕ) : Type 0 where
  pub seat : w < length s.workers
  pub alive : (worker_at s.workers w).ended ≡ false
  pub within : used ≤ (worker_at s.workers w).purse
  pub fits : s.spent + used < 2 ^ 64
  pub back : (s.available + ((worker_at s.workers w).purse - used)) + (s.spent + used) < 2 ^ 64
