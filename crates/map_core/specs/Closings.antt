-- What is left when every worker has ended.
use Rattle.std.specs.Prelude.{◌≡◌, ◌≢◌, ℕ, ◌<◌, Bool, true, false, List, [], ◌∷◌, ◌++◌, MatchOption}
use Rattle.std.specs.List.{list_any}
use Rattle.lrat_steps.specs.Log.{LogStep, db_of, learned_count}
use Rattle.lrat_steps.specs.Undecided.{Undecided}
use Rattle.evidence_rec.specs.Records.{founds}
use Rattle.evidence_rec.specs.Seeding.{IsHonestMap, shows_all_explored}
pub use Rattle.evidence_rec.specs.Held.{HoldsAll}
use Rattle.map_core.specs.declared.entry.Call.TheVariants.{Take}
use Rattle.map_core.specs.declared.entry.Reply.TheVariants.{Dry}
use Rattle.map_core.specs.declared.entry.Entry.{Entry}
use Rattle.map_core.specs.declared.entry.Opening.{Opening}
use Rattle.map_core.specs.declared.closing.Verdict.{Verdict}
use Rattle.map_core.specs.declared.closing.Verdict.TheVariants.{Complete, Settled, Journal, Memory, Limit, Budget}
use Rattle.map_core.specs.declared.closing.Closing.{Closing}
use Rattle.map_core.specs.Core.{State, IsReached, is_told}
use Rattle.map_core.specs.Own.{calls_of, worker_of, is_for_journal, engine_used_in, brought_in}
use Rattle.map_core.specs.Sound.{IsSound}

-- exhausted goes before settled, settled before a retirement for the journal, that before any other (stopped), and stopped
-- before limited
abbrev pub verdict_by : Bool → Bool → Bool → Bool → Bool → Verdict
verdict_by true settled cut_off stopped limited = Complete
verdict_by false true cut_off stopped limited = Settled
verdict_by false false true stopped limited = Journal
verdict_by false false false true limited = Memory
verdict_by false false false false true = Limit
verdict_by false false false false false = Budget

-- a retirement for the journal stands in the history
abbrev pub is_cut_off : List Entry → Bool
is_cut_off history = list_any (λ (e : Entry). is_for_journal e.call) history

-- each worker has ended, by its own entries
pub record HaveEnded (o : Opening) (history : List Entry) : Type 0 where
  pub at : (w : ℕ) → w < o.workers → (worker_of (calls_of w history)).ended ≡ true

-- the last entry found the budget spent; where it is a take's, the map's search stands before a conflict
pub record EndsDry (history : List Entry) (log : List LogStep) : Type 0 where
  pub before : List Entry
  pub last : Entry
  pub ends : history ≡ before ++ last ∷ []
  pub dry : last.reply ≡ Dry
  pub undecided : last.call ≡ Take → Undecided (db_of log) []

-- what is left of a state, and the map's log
pub record IsClosing (s : State) (closing : Closing) (log : List LogStep) : Type 0 where
  pub reached : IsReached s
  pub sound : IsSound s
  pub records : closing.records ≡ s.records
  -- the opening's, and then those that were posted and were new, in their order
  pub brought : closing.records ≡ s.opening.records ++ brought_in s.history
  pub history : closing.history ≡ s.history
  pub verdict : closing.verdict ≡ verdict_by s.exhausted s.settled (is_cut_off s.history) s.stopped s.limited
  pub all : closing.verdict ≡ Complete → HoldsAll s.opening.problem s.records
  pub told : closing.verdict ≡ Settled → is_told s.opening.goal s.opening.problem.groups (founds s.records) ≡ true
  pub spent : closing.verdict ≡ Budget → s.spent ≡ s.opening.budget
  pub dry : closing.verdict ≡ Budget → EndsDry s.history log
  -- a derivation of the empty clause from the records' block clauses
  pub proof : MatchOption closing.proof (closing.verdict ≢ Complete) (λ d. (closing.verdict ≡ Complete) × (shows_all_explored s.opening.problem.groups (founds s.records) d ≡ true))
  pub honest : IsHonestMap (founds s.records) log
  pub learned : learned_count log ≡ engine_used_in s.history
