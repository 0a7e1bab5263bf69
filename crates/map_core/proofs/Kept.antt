-- What a core keeps, from call to call.
use Rattle.std.proofs.Common.{◌≡◌, ◌≢◌, ◌⊎◌, ℕ, ◌+◌, ◌<◌, ◌≤◌, ◌^◌, leb, Bool, true, false, not, cond, List, [], ◌∷◌, ◌++◌, length, take, get_or, set, Option, Some, None, refl, sym, ◌∙◌, ap, subst, inl, inr, arith, length-append}
use Rattle.std.proofs.lemmas.Bool.{false≢true, cases_Bool}
use Rattle.std.proofs.lemmas.List.{get_or_default, length-set, take-append-le}
use Rattle.std.proofs.lemmas.List.Sums.{sum_by-set, sum_by_push, get_or-le-sum_by, count_by-le-length}
use Rattle.gm_base.specs.Problem.{Problem}
use Rattle.gm_base.specs.Explored.{Found}
use Rattle.sat_base.specs.Derivation.{Derivation}
use Rattle.lrat_steps.specs.Log.{db_of, learned_count}
use Rattle.lrat_steps.specs.Undecided.{Undecided}
use Rattle.evidence_rec.specs.Seeding.{EngineState, IsHonestMap, shows_all_explored}
use Rattle.gm_base.specs.declared.kind.Kind.{Kind}
use Rattle.evidence_rec.specs.declared.record.Record.{Record}
use Rattle.evidence_rec.specs.Records.{founds}
use Rattle.map_core.specs.declared.entry.Call.{Call}
use Rattle.map_core.specs.declared.entry.Call.TheVariants.{Take, Refill, Post, Retire}
use Rattle.map_core.specs.declared.entry.Reply.{Reply}
use Rattle.map_core.specs.declared.entry.Reply.TheVariants.{Dry}
use Rattle.map_core.specs.declared.entry.Entry.{Entry}
use Rattle.map_core.specs.declared.turn.Worker.{Worker}
use Rattle.map_core.specs.declared.turn.Turn.{Turn}
use Rattle.map_core.specs.declared.common.Common.{Common}
use Rattle.map_core.specs.declared.entry.Goal.{Goal}
use Rattle.evidence_rec.specs.declared.held.Held.{Held}
use Rattle.map_core.specs.declared.tally.Tally.{Tally}
use Rattle.map_core.specs.Core.{State, no_worker, worker_at, opened, turn_at, settle, Takes, Posts, Does, after, CoreStep, CoreRun}
use Rattle.map_core.specs.Own.{calls_of, CanCall, engine_part}
use Rattle.map_core.specs.Sound.{IsOpening, IsSound, purse_of, is_live, live_count}
use Rattle.evidence_rec.specs.Index.{IsIndex}
use Rattle.map_core.specs.Tallies.{Tallies}
use Rattle.std.specs.Option.{option_or}
use Rattle.map_core.specs.Asked.{GivesProof}
use Rattle.map_core.specs.Closings.{HaveEnded}
use Rattle.map_core.specs.Kept.{state_of, KeepsProof, IsDriven, IsKept, IsReady}
use Rattle.map_core.proofs.Steps.{Adds, grown, is_longer, runs_sound, run-push, last-same}
use Rattle.evidence_rec.proofs.AcceptedLemmas.{accepted-right, alone-right}
use Rattle.evidence_rec.proofs.Explored.{held_at_end}

-- what holds of every state that a run reaches holds of a core
pub kept_sound : {s : State} {first capacity : ℕ} {held : Held} {tally : Tally} {engine : EngineState} {proof : Option Derivation}
    → IsKept s first capacity held tally engine proof → IsSound s
kept_sound {s = s} k = (runs_sound s.opening s.history s k.opening k.reached).0

-- a worker that may call has a seat, and the sums fit
pub ready : {s : State} {first capacity : ℕ} {held : Held} {tally : Tally} {engine : EngineState} {proof : Option Derivation}
    {w used : ℕ} → IsKept s first capacity held tally engine proof → CanCall s.opening w used (calls_of w s.history)
    → IsReady s w used
ready {s = s} {w = w} {used = used} k can =
    let ok = kept_sound k in
    let seat : w < length s.workers = subst (λ n. w < n) (sym ok.count) can.seat in
    let own = ok.own w seat in
    let alive : (worker_at s.workers w).ended ≡ false = ap (λ (x : Worker). x.ended) own ∙ can.alive in
    let within : used ≤ (worker_at s.workers w).purse = subst (λ (x : Worker). used ≤ x.purse) (sym own) can.within in
    let part = get_or-le-sum_by purse_of s.workers w no_worker seat in
    let budget = ok.budget in
    let small = k.small in
    record {
      seat = seat;
      alive = alive;
      within = within;
      fits = omega arith;
      back = omega arith;
    }

-- the entry takes the caller's place where it ends, and a new one where it goes on
pub room_after : (workers : List Worker) (size capacity more w : ℕ) (u : Turn) → w < length workers
    → (worker_at workers w).ended ≡ false → size + live_count workers ≤ capacity → capacity ≤ more
    → (u.worker.ended ≡ false → size + (length workers + 1) ≤ more)
    → (size + 1) + live_count (set workers w u.worker) ≤ more
room_after workers size capacity more w u seat alive room longer on =
    let changed : live_count (set workers w u.worker) + cond (not (worker_at workers w).ended) 1 0 ≡ live_count workers + cond (not u.worker.ended) 1 0 =
    sum_by-set (λ (x : Worker). cond (is_live x) 1 0) workers w u.worker no_worker seat in
    let was : live_count (set workers w u.worker) + 1 ≡ live_count workers + cond (not u.worker.ended) 1 0 =
    subst
    (λ b. live_count (set workers w u.worker) + cond (not b) 1 0 ≡ live_count workers + cond (not u.worker.ended) 1 0)
    alive changed in
    elim (cases_Bool u.worker.ended) [
      | inl over ↦ let now : live_count (set workers w u.worker) + 1 ≡ live_count workers + 0 = subst (λ b. live_count (set workers w u.worker) + 1 ≡ live_count workers + cond (not b) 1 0) over was in omega arith
      | inr goes ↦
          let most = count_by-le-length is_live (set workers w u.worker) in
          let size_of = length-set workers w u.worker in
          let more_room = on goes in omega arith
    ]

-- what a call leaves of the engine: the blocks of the records after it, and the log with what was learnt for it
pub record IsDrivenOn (old new : EngineState) (records : List Record) (e : Entry) : Type 0 where
  pub same_groups : new.groups ≡ old.groups
  pub blocks : new.blocks ≡ founds records
  pub honest : IsHonestMap new.blocks new.log
  pub learned : learned_count new.log ≡ learned_count old.log + engine_part e.engine
  pub dry : e.call ≡ Take → e.reply ≡ Dry → Undecided (db_of new.log) []

-- only a take asks the engine
abbrev pub is_take : Call → Bool
is_take Take = true
is_take (Refill asked) = false
is_take (Post kind groups r) = false
is_take (Retire why) = false

pub no_take : (c : Call) → is_take c ≡ false → c ≢ Take
no_take c other is = false≢true (sym other ∙ ap is_take is)

-- a call that does not ask the engine
pub idle : {s : State} {engine : EngineState} (e : Entry) → IsDriven s engine → e.engine ≡ None → e.call ≢ Take
    → IsDrivenOn engine engine s.records e
idle e d unasked other =
    record {
      same_groups = refl;
      blocks = d.same_blocks;
      honest = d.honest;
      learned = let none = ap engine_part unasked in omega arith;
      dry = λ take dry. absurd (other take);
    }

-- the same facts, of the state after the entry
driven_after : {s : State} {old new : EngineState} (e : Entry) (u : Turn) (records : List Record) → IsDriven s old
    → IsDrivenOn old new records e → IsDriven (after s e u records) new
driven_after {s = s} e u records d on =
    record {
      same_groups = on.same_groups ∙ d.same_groups;
      same_blocks = on.blocks;
      honest = on.honest;
      learned =
          on.learned ∙ ap (λ n. n + engine_part e.engine) d.learned ∙ sym
          (sum_by_push (λ (x : Entry). engine_part x.engine) s.history e);
      dry = λ before last same take dry.
          let is = last-same s.history before e last same in
          on.dry (ap (λ (x : Entry). x.call) is ∙ take) (ap (λ (x : Entry). x.reply) is ∙ dry);
    }

-- what a call writes back is the state after its entry
pub moved : (tops : Bool) (goal : Goal) (problem : Problem) (first budget limit : ℕ) (common common' : Common)
    (records records' : List Record) (workers workers' : List Worker) (history history' : List Entry) (e : Entry)
    (u : Turn) → common' ≡ u.common → workers' ≡ set workers e.worker u.worker → history' ≡ history ++ e ∷ []
    → take first records' ≡ take first records
    → state_of tops goal problem first budget limit common' records' workers' history' ≡ after
    (state_of tops goal problem first budget limit common records workers history) e u records'
moved tops goal problem first budget limit common common' records records' workers workers' history history' e u c w h r =
    let size : length workers' ≡ length workers = ap length w ∙ length-set workers e.worker u.worker in
    ap (λ x. state_of tops goal problem first budget limit x records' workers' history') c
    ∙ ap (λ x. at (take first records') (length workers') workers' x) h
    ∙ ap (λ x. at x (length workers') workers' (history ++ e ∷ [])) r
    ∙ ap (λ x. at (take first records) x workers' (history ++ e ∷ [])) size
    ∙ ap (λ x. at (take first records) (length workers) x (history ++ e ∷ [])) w
  where
    at : List Record → ℕ → List Worker → List Entry → State
    at opening n workers history =
        record {
          opening = record { problem = problem; records = opening; workers = n; budget = budget; limit = limit; goal = goal; tops = tops };
          records = records';
          workers = workers;
          available = u.common.available;
          spent = u.common.spent;
          exhausted = u.common.exhausted;
          settled = u.common.settled;
          limited = u.common.limited;
          stopped = u.common.stopped;
          history = history;
        }

-- the opening records stay the first ones
same_first : (s : State) (first : ℕ) (records : List Record) → first ≤ length s.records
    → (records ≡ s.records) ⊎ ((r : Record) × Adds s records r) → take first records ≡ take first s.records
same_first s first records le (inl same) = ap (take first) same
same_first s first records le (inr (r, adds)) = ap (take first) adds.is ∙ take-append-le first s.records (r ∷ []) le

pub first_stays : (s : State) (first : ℕ) (t u : Turn) (e : Entry) (records : List Record) → first ≤ length s.records
    → Does s t e.call e.engine e.reply u records → take first records ≡ take first s.records
first_stays s first t u e records le does = same_first s first records le (grown s t u e.call e.engine e.reply records does)

-- after a step, with what the engine, the index and the proof have to keep
pub kept_step : {s t : State} {e : Entry} {first capacity : ℕ} {held : Held} {tally : Tally} {engine : EngineState}
    {proof : Option Derivation} (capacity' : ℕ) (held' : Held) (tally' : Tally) (engine' : EngineState) (proof' : Option Derivation)
    → IsKept s first capacity held tally engine proof → CoreStep s e t → length t.history + live_count t.workers ≤ capacity'
    → IsIndex held' t.records → Tallies t.opening.goal t.opening.problem.groups (founds t.records) tally' → KeepsProof t.opening.problem.groups (founds t.records) t.exhausted proof'
    → IsDrivenOn engine engine' t.records e → IsKept t first capacity' held' tally' engine' proof'
kept_step {s = s} {t = t} {e = e} {first = first} {engine = engine} capacity' held' tally' engine' proof' k step room index tallies kept on =
    let is = step.is in
    let opening : t.opening ≡ s.opening = ap (λ (x : State). x.opening) is in
    let history : t.history ≡ s.history ++ e ∷ [] = ap (λ (x : State). x.history) is in
    let records : t.records ≡ step.records = ap (λ (x : State). x.records) is in
    let (more, longer) =
    is_longer s step.records
    (grown s (settle e.used (turn_at s e.worker)) step.turn e.call e.engine e.reply step.records step.does) in
    let size = ap length records ∙ ap length longer ∙ length-append s.records more in
    let first_le = k.begins in
    record {
      opening = subst IsOpening (sym opening) k.opening;
      reached =
          subst (λ o. CoreRun (opened o) t.history t) (sym opening)
          (subst (λ h. CoreRun (opened s.opening) h t) (sym history) (run-push (opened s.opening) s t s.history e k.reached step));
      begins = omega arith;
      small = subst (λ (n : ℕ). n < 2 ^ 64) (sym (ap (λ (x : State). x.opening.budget) is)) k.small;
      room = room;
      index = index;
      tallies = tallies;
      keeps = kept;
      driven =
          subst (λ x. IsDriven x engine') (sym is)
          (driven_after e step.turn step.records k.driven (subst (λ rs. IsDrivenOn engine engine' rs e) records on));
    }

-- over the same blocks a proof is kept as it was
keeps-same : (groups : ℕ) (found found' : List Found) (exhausted : Bool) (proof : Option Derivation) → found' ≡ found
    → KeepsProof groups found exhausted proof → KeepsProof groups found' exhausted proof
keeps-same groups found found' exhausted proof is h = subst (λ f. KeepsProof groups f exhausted proof) (sym is) h

-- where exhausted is marked, no record is added
keeps-more : (s : State) (r : Record) (records : List Record) (proof : Option Derivation) → IsSound s
    → Adds s records r → KeepsProof s.opening.problem.groups (founds s.records) s.exhausted proof
    → KeepsProof s.opening.problem.groups (founds records) s.exhausted proof
keeps-more s r records None ok adds h = h
keeps-more s r records (Some d) ok adds h =
    absurd
    (false≢true (sym adds.fresh ∙ held_at_end s.opening.problem s.records r (accepted-right s.opening.problem s.records ok.opening.problem ok.accepted) (ok.exhausted h.0)
    (alone-right s.opening.problem r ok.opening.problem adds.accepted)))

-- the step that a call makes
pub step_made : (tops : Bool) (goal : Goal) (problem : Problem) (first budget limit : ℕ) (common common' : Common)
    (records records' : List Record) (workers workers' : List Worker) (history history' : List Entry) (e : Entry)
    (u : Turn) → first ≤ length records
    → IsReady (state_of tops goal problem first budget limit common records workers history) e.worker e.used
    → Does (state_of tops goal problem first budget limit common records workers history)
    (settle e.used (turn_at (state_of tops goal problem first budget limit common records workers history) e.worker)) e.call
    e.engine e.reply u records' → common' ≡ u.common → workers' ≡ set workers e.worker u.worker
    → history' ≡ history ++ e ∷ []
    → CoreStep (state_of tops goal problem first budget limit common records workers history) e
    (state_of tops goal problem first budget limit common' records' workers' history')
step_made tops goal problem first budget limit common common' records records' workers workers' history history' e u low r does c w h =
    let s : State = state_of tops goal problem first budget limit common records workers history in
    record {
      alive = r.alive;
      within = r.within;
      turn = u;
      records = records';
      does = does;
      is =
          moved tops goal problem first budget limit common common' records records' workers workers' history history' e u c w h
          (first_stays s first (settle e.used (turn_at s e.worker)) u e records' low does);
    }

-- what a core keeps after a call
pub call_kept : {tops : Bool} {goal : Goal} {problem : Problem} {first budget limit : ℕ} {common : Common} {records : List Record}
    {workers : List Worker} {history : List Entry} {capacity : ℕ} {held : Held} {tally : Tally} {engine : EngineState}
    {proof : Option Derivation}
    → (common' : Common) (records' : List Record) (workers' : List Worker) (history' : List Entry) (capacity' : ℕ)
    (held' : Held) (tally' : Tally) (engine' : EngineState) (proof' : Option Derivation) (e : Entry) (u : Turn)
    → IsKept (state_of tops goal problem first budget limit common records workers history) first capacity held tally engine proof
    → IsReady (state_of tops goal problem first budget limit common records workers history) e.worker e.used
    → Does (state_of tops goal problem first budget limit common records workers history)
    (settle e.used (turn_at (state_of tops goal problem first budget limit common records workers history) e.worker)) e.call
    e.engine e.reply u records' → common' ≡ u.common → workers' ≡ set workers e.worker u.worker
    → history' ≡ history ++ e ∷ [] → capacity ≤ capacity'
    → (u.worker.ended ≡ false → length history + (length workers + 1) ≤ capacity') → IsIndex held' records'
    → Tallies goal problem.groups (founds records') tally'
    → KeepsProof problem.groups (founds records') u.common.exhausted proof' → IsDrivenOn engine engine' records' e
    → IsKept (state_of tops goal problem first budget limit common' records' workers' history') first capacity' held'
    tally' engine' proof'
call_kept {tops = tops} {goal = goal} {problem = problem} {first = first} {budget = budget} {limit = limit} {common = common} {records = records} {workers = workers} {history = history} common' records' workers' history' capacity' held' tally' engine' proof' e u k r does c w h longer on index tallies keeps driven =
    let step =
    step_made tops goal problem first budget limit common common' records records' workers workers' history history' e u
    k.begins r does c w h in
    let room = room_after workers (length history) _ capacity' e.worker u r.seat r.alive k.room longer on in
    let size : length history' ≡ length history + 1 = ap length h ∙ length-append history (e ∷ []) in
    let live : live_count workers' ≡ live_count (set workers e.worker u.worker) = ap live_count w in
    let marked : common'.exhausted ≡ u.common.exhausted = ap (λ (x : Common). x.exhausted) c in
    kept_step capacity' held' tally' engine' proof' k step (omega arith) index tallies
    (subst (λ b. KeepsProof problem.groups (founds records') b proof') (sym marked) keeps) driven

-- a call that does not mark exhausted keeps the proof
pub proof_kept : {s : State} {first capacity : ℕ} {held : Held} {tally : Tally} {engine : EngineState} {proof : Option Derivation}
    (e : Entry) (u : Turn) (records : List Record) → IsKept s first capacity held tally engine proof
    → Does s (settle e.used (turn_at s e.worker)) e.call e.engine e.reply u records → u.common.exhausted ≡ s.exhausted
    → KeepsProof s.opening.problem.groups (founds records) u.common.exhausted proof
proof_kept {s = s} {proof = proof} e u records k does same =
    subst (λ b. KeepsProof s.opening.problem.groups (founds records) b proof) (sym same)
    (elim (grown s (settle e.used (turn_at s e.worker)) u e.call e.engine e.reply records does) [
      | inl is ↦ keeps-same s.opening.problem.groups (founds s.records) (founds records) s.exhausted proof (ap founds is) k.keeps
      | inr (r, adds) ↦ keeps-more s r records proof (kept_sound k) adds k.keeps
    ])

-- the proof after a take: the one that it gives, or the one before
pub proof_taken : (groups groups' : ℕ) (found found' : List Found) (t u : Turn) (before given : Option Derivation)
    → groups' ≡ groups → found' ≡ found → KeepsProof groups found t.common.exhausted before
    → GivesProof groups' found' t u given → KeepsProof groups found u.common.exhausted (option_or given before)
proof_taken groups groups' found found' t u before None same is h gives = subst (λ b. KeepsProof groups found b before) (sym gives) h
proof_taken groups groups' found found' t u before (Some d) same is h gives =
    (gives.0, ap (λ f. shows_all_explored groups f d) (sym is) ∙ ap (λ n. shows_all_explored n found' d) (sym same) ∙ gives.1)

-- a take's answer over equal parts
pub takes_here : {groups groups' : ℕ} {found found' : List Found} {told told' : Bool} {size size' : ℕ} {t t' : Turn}
    (tops : Bool) (limit number : ℕ) (engine : Option ℕ) (reply : Reply) (u : Turn) → groups ≡ groups' → found ≡ found'
    → told ≡ told' → size ≡ size' → t ≡ t' → Takes tops groups found told (leb limit size) number t engine reply u
    → Takes tops groups' found' told' (leb limit size') number t' engine reply u
takes_here {groups = groups} {groups' = groups'} {found = found} {found' = found'} {told = told} {told' = told'} {size = size} {size' = size'} {t = t} tops limit number engine reply u a b c n e h =
    subst (λ x. Takes tops groups' found' told' (leb limit size') number x engine reply u) e
    (subst (λ x. Takes tops groups' found' told' (leb limit x) number t engine reply u) n
    (subst (λ x. Takes tops groups' found' x (leb limit size) number t engine reply u) c
    (subst (λ x. Takes tops groups' x told (leb limit size) number t engine reply u) b
    (subst (λ x. Takes tops x found told (leb limit size) number t engine reply u) a h))))

-- a post's answer over equal parts
pub posts_here : {size size' : ℕ} {t t' : Turn} (p : Problem) (limit : ℕ) (records : List Record) (kind : Kind)
    (groups : List ℕ) (r : Record) (reply : Reply) (u : Turn) (records' : List Record) → size ≡ size' → t ≡ t'
    → Posts p (leb limit size) records t kind groups r reply u records'
    → Posts p (leb limit size') records t' kind groups r reply u records'
posts_here {size = size} {size' = size'} {t = t} p limit records kind groups r reply u records' n e h =
    subst (λ x. Posts p (leb limit size') records x kind groups r reply u records') e
    (subst (λ x. Posts p (leb limit x) records t kind groups r reply u records') n h)

-- a worker that has not ended may call, having used nothing
pub may_from : {s : State} {first capacity : ℕ} {held : Held} {tally : Tally} {engine : EngineState} {proof : Option Derivation}
    (w : ℕ) → IsKept s first capacity held tally engine proof → w < length s.workers → (worker_at s.workers w).ended ≡ false
    → CanCall s.opening w 0 (calls_of w s.history)
may_from {s = s} w k seat alive =
    let ok = kept_sound k in
    let own = ok.own w seat in
    record {
      seat = subst (λ n. w < n) ok.count seat;
      alive = ap (λ (x : Worker). x.ended) (sym own) ∙ alive;
      within = omega arith;
    }

not_ended : (b : Bool) → not b ≡ true → b ≡ false
not_ended true h = absurd (false≢true h)
not_ended false h = refl

-- the worker at a place has not ended, where a test says so
pub alive_at : (ws : List Worker) (w : ℕ) (x : Worker) → w < length ws → x ≡ get_or ws w x → not x.ended ≡ true
    → (worker_at ws w).ended ≡ false
alive_at ws w x seat is h =
    ap (λ (y : Worker). y.ended) (sym (is ∙ get_or_default ws w x no_worker seat)) ∙ not_ended x.ended h

-- where the worker at each place has ended, each has by its own entries
pub ended_from : {s : State} {first capacity : ℕ} {held : Held} {tally : Tally} {engine : EngineState} {proof : Option Derivation}
    → IsKept s first capacity held tally engine proof
    → ((w : ℕ) → w < length s.workers → (worker_at s.workers w).ended ≡ true) → HaveEnded s.opening s.history
ended_from {s = s} k all =
    let ok = kept_sound k in
    record {
      at = λ w low.
          let seat : w < length s.workers = subst (λ n. w < n) (sym ok.count) low in
          ap (λ (x : Worker). x.ended) (sym (ok.own w seat)) ∙ all w seat;
    }

-- the other way round
pub may_to : {s : State} {first capacity : ℕ} {held : Held} {tally : Tally} {engine : EngineState} {proof : Option Derivation} (w : ℕ)
    → IsKept s first capacity held tally engine proof → CanCall s.opening w 0 (calls_of w s.history)
    → (w < length s.workers) × ((worker_at s.workers w).ended ≡ false)
may_to {s = s} w k can =
    let ok = kept_sound k in
    let seat : w < length s.workers = subst (λ n. w < n) (sym ok.count) can.seat in
    (seat, ap (λ (x : Worker). x.ended) (ok.own w seat) ∙ can.alive)

-- the other way round
pub not_ended_at : (ws : List Worker) (w : ℕ) (x : Worker) → w < length ws → x ≡ get_or ws w x
    → (worker_at ws w).ended ≡ false → not x.ended ≡ true
not_ended_at ws w x seat is h = ap not (ap (λ (y : Worker). y.ended) (is ∙ get_or_default ws w x no_worker seat) ∙ h)

-- the other way round
pub ended_to : {s : State} {first capacity : ℕ} {held : Held} {tally : Tally} {engine : EngineState} {proof : Option Derivation}
    → IsKept s first capacity held tally engine proof → HaveEnded s.opening s.history → (w : ℕ) → w < length s.workers
    → (worker_at s.workers w).ended ≡ true
ended_to {s = s} k over w seat =
    let ok = kept_sound k in
    ap (λ (x : Worker). x.ended) (ok.own w seat) ∙ over.at w (subst (λ n. w < n) ok.count seat)
