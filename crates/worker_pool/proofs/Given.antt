-- The seed of a job is one that some accepted records leave unexplored.
use Rattle.std.proofs.Common.{◌≡◌, ℕ, List, [], ◌∷◌, ◌++◌, Option, Some, None, refl, sym, subst}
use Rattle.gm_base.specs.Problem.{Problem}
use Rattle.evidence_rec.specs.declared.record.Record.{Record}
use Rattle.evidence_rec.specs.Records.{founds, AllAccepted}
use Rattle.evidence_rec.specs.Seeding.{IsSeed}
use Rattle.map_core.specs.declared.entry.Call.{Call}
use Rattle.map_core.specs.declared.entry.Call.TheVariants.{Take, Refill, Post, Retire}
use Rattle.map_core.specs.declared.entry.Reply.TheVariants.{Job}
use Rattle.map_core.specs.declared.entry.Entry.{Entry}
use Rattle.map_core.specs.declared.entry.Opening.{Opening}
use Rattle.map_core.specs.declared.turn.Turn.{Turn}
use Rattle.map_core.specs.Core.{State, turn_at, settle, opened, Does, CoreStep, CoreRun, IsLegal}
use Rattle.map_core.specs.Sound.{IsOpening}
use Rattle.map_core.proofs.Steps.{runs_sound}
use Rattle.board.specs.Boards.{SeatView, IsCall}
use Rattle.worker_pool.specs.Course.{IsGiven}

-- the last step of a run
run-last : (s t : State) (es : List Entry) (e : Entry) → CoreRun s (es ++ e ∷ []) t → (mid : State) × CoreRun s es mid × CoreStep mid e t
run-last s t [] e run = (s, refl, subst (CoreStep s e) (sym run.2) run.1)
run-last s t (x ∷ xs) e run = let r = run-last run.0 t xs e run.2 in (r.0, (run.0, run.1, r.1), r.2)

job_seed : (s : State) (t : Turn) (call : Call) (engine : Option ℕ) (turn n : ℕ) (seed : List ℕ) (u : Turn) (records : List Record)
    → Does s t call engine (Job turn seed n) u records → IsSeed s.opening.tops s.opening.problem.groups (founds s.records) seed
job_seed s t Take None turn n seed u records h = absurd h.0
job_seed s t Take (Some k) turn n seed u records h = h.0.1.1
job_seed s t (Refill asked) engine turn n seed u records h = absurd h.1
job_seed s t (Post kind groups r) engine turn n seed u records h = absurd h.1
job_seed s t (Retire why) engine turn n seed u records h = cc (h.1)

at_job : (o : Opening) (mid t : State) (before : List Entry) (e : Entry) (turn n : ℕ) (seed : List ℕ) → IsOpening o → CoreRun (opened o) before mid → CoreStep mid e t
    → e.reply ≡ Job turn seed n → IsGiven o.problem o.tops seed
at_job o mid t before e turn n seed ok run step job =
    let sound = runs_sound o before mid ok run in
    let is = job_seed mid (settle e.used (turn_at mid e.worker)) e.call e.engine turn n seed step.turn step.records
    (subst (λ r. Does mid (settle e.used (turn_at mid e.worker)) e.call e.engine r step.turn step.records) job step.does) in
    record {
      problem = ok.problem;
      records = mid.records;
      accepted = subst (λ (x : Opening). AllAccepted x.problem mid.records) sound.2 sound.0.accepted;
      is_seed = subst (λ (x : Opening). IsSeed x.tops x.problem.groups (founds mid.records) seed) sound.2 is;
    }

-- a take that was answered by a job
pub given : (o : Opening) (p : Problem) (s t : SeatView Entry Opening) (used turn n : ℕ) (seed : List ℕ) → IsOpening o → o.problem ≡ p → IsCall o s Take used (Job turn seed n) t
    → IsGiven p o.tops seed
given o p s t used turn n seed ok same call =
    let legal : IsLegal o ((s.seen ++ call.between) ++ call.entry ∷ []) = subst (IsLegal o) call.seen call.is_legal in
    let last = run-last (opened o) legal.0 (s.seen ++ call.between) call.entry legal.1 in
    subst (λ q. IsGiven q o.tops seed) same (at_job o last.0 legal.0 (s.seen ++ call.between) call.entry turn n seed ok last.1 last.2 call.reply_is)
