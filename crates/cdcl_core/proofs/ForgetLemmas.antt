-- What forgetting a clause that forces nothing keeps.
use Rattle.std.proofs.Common.{◌≡◌, ◌≢◌, ℕ, zero, suc, ◌+◌, ◌-◌, ◌<◌, ◌≤◌, true, false, List, [], ◌∷◌, ◌++◌, length, get_or, set, take, Option, Some, None, refl, sym, ◌∙◌, ap, subst, inl, inr, arith}
use Rattle.std.specs.Prelude.{ℤ}
use Rattle.sat_base.specs.Members.{In}
use Rattle.sat_base.specs.Literals.{AreLiterals}
use Rattle.sat_base.specs.Derivation.{clause_of}
use Rattle.sat_base.specs.Database.{StoredClause, IsLive}
use Rattle.sat_base.specs.Forgotten.{not_live, named, forgotten}
use Rattle.std.proofs.lemmas.List.{take_all}
use Rattle.sat_base.proofs.DatabaseLemmas.{In-take_more}
use Rattle.sat_base.proofs.ForgottenLemmas.{known-forgotten, live-before, clause-before}
use Rattle.sat_base.specs.Units.{AllTrue}
use Rattle.clause_store.specs.Clauses.{Clauses, IsId, clause_at}
use Rattle.trail_book.specs.declared.entry.Entry.{Entry}
use Rattle.trail_book.specs.Trail.{trues}
use Rattle.learn_step.specs.Reasons.{HasUnit}
use Rattle.lrat_steps.specs.declared.step.StepKind.TheVariants as step_kind
use Rattle.lrat_steps.specs.Log.{LogStep, Forgot, kind_of, steps_of, step_at, learned_count}
use Rattle.lrat_steps.specs.Forgetting.{IsForgettable, MayForget, live_count}
use Rattle.lrat_steps.specs.Honest.{IsHonest}
use Rattle.lrat_steps.proofs.LogLemmas.{db_len, db_of-push, inputs-push_forgot, learned-push, honest-forgot}
use Rattle.propagate.specs.Watches.{IsKept, KeepsClauses}
use Rattle.cdcl_core.specs.declared.search.Search.{Search}
use Rattle.cdcl_core.specs.Answers.{IsHonestlyPaid}
use Rattle.cdcl_core.specs.State.{IsSoundEntry, IsSound, IsRecorded, IsRoot}
use Rattle.cdcl_core.specs.Search.{IsSearch}
use Rattle.cdcl_core.specs.Forgetting.{IsStaleAtRoot}
use Rattle.cdcl_core.proofs.ReadyLemmas.{search_root}

-- the id of a clause is that of a step
pub step_within : (vars : ℕ) (db : List StoredClause) (log : List LogStep) (id : ℕ) → IsRecorded vars db log → IsId db id → id ≤ length (steps_of log)
step_within vars db log id w is = let high = is.within in let len = db_len log in let same = ap length w.same in omega arith

pub forgettable_of : (vars : ℕ) (db : List StoredClause) (log : List LogStep) (id : ℕ) → IsRecorded vars db log → IsId db id → (clause_at db id).live ≡ true → kind_of (step_at log id) ≡ step_kind.Learned
    → MayForget (live_count log) (learned_count log) → IsForgettable log id
forgettable_of vars db log id w is live kind may = record {
  live = record {
    from_one = is.from_one;
    within = step_within vars db log id w is;
    learned = kind;
    live = ap (λ (k : List StoredClause). (named k id).live) w.same ∙ live;
  };
  enough = may;
}

In-kept : {X : Type 0} (xs : List X) (at : ℕ) (x y d : X) → In y xs → y ≢ get_or xs at d → In y (set xs at x)
In-kept [] at x y d i ne = absurd i
In-kept (z ∷ xs) zero x y d (inl same) ne = absurd (ne same)
In-kept (z ∷ xs) zero x y d (inr i) ne = inr i
In-kept (z ∷ xs) (suc at) x y d (inl same) ne = inl same
In-kept (z ∷ xs) (suc at) x y d (inr i) ne = inr (In-kept xs at x y d i ne)

live_stays : (db : List StoredClause) (id : ℕ) (lits : List ℤ) → IsLive db lits → lits ≢ (named db id).lits → IsLive (forgotten db id) lits
live_stays db id lits live ne =
    In-kept db (id - 1) (not_live (named db id)) (record { lits = lits; live = true }) (record { lits = []; live = false }) live (λ e. ne (ap (λ (c : StoredClause). c.lits) e))

abbrev IsUntrue : List StoredClause → ℕ → List ℤ → Type 0
IsUntrue db id trues = (l : ℤ) → In l (named db id).lits → ¬ In l trues

unit_kept : (db : List StoredClause) (id : ℕ) (lit : ℤ) (unit : Option ℕ) → HasUnit db lit unit → HasUnit (forgotten db id) lit unit
unit_kept db id lit None h = tt
unit_kept db id lit (Some u) h = ap (λ known. clause_of known u) (known-forgotten db id) ∙ h

entry_kept : (db : List StoredClause) (id : ℕ) (assumed : List ℤ) (count : ℕ) (es : List Entry) (lit : ℤ) (reason : Option ℕ) → IsUntrue db id (lit ∷ trues es) → IsSoundEntry db assumed count es lit reason
    → IsSoundEntry (forgotten db id) assumed count es lit reason
entry_kept db id assumed count es lit None untrue (decided, fixpoint) = (decided, λ clause live. fixpoint clause (live-before db id clause live))
entry_kept db id assumed count es lit (Some r) untrue (reason, forced) = (
  record { clause = reason.clause; named = ap (λ known. clause_of known r) (known-forgotten db id) ∙ reason.named; has = reason.has; others = reason.others },
  record {
    clause = forced.clause;
    live = live_stays db id forced.clause forced.live (λ same. untrue lit (subst (In lit) same forced.has) (inl refl));
    has = forced.has;
    others = forced.others;
  },
)

sound_kept : (db : List StoredClause) (id : ℕ) (assumed : List ℤ) (count : ℕ) (es : List Entry) → IsUntrue db id (trues es) → IsSound db assumed count es → IsSound (forgotten db id) assumed count es
sound_kept db id assumed count [] untrue s = tt
sound_kept db id assumed count (e ∷ es) untrue s = (
  entry_kept db id assumed count es e.lit e.reason untrue s.0,
  unit_kept db id e.lit e.unit s.1,
  sound_kept db id assumed count es (λ l i j. untrue l i (inr j)) s.2,
)

pub root_forgotten : (vars : ℕ) (db : List StoredClause) (log : List LogStep) (es : List Entry) (id : ℕ) → IsRoot vars db log es → IsForgettable log id → ((l : ℤ) → In l (clause_at db id).lits → ¬ In l (trues es))
    → IsRoot vars (forgotten db id) (log ++ Forgot id ∷ []) es
root_forgotten vars db log es id r may untrue =
    let s = r.state in
    record {
      state = record {
        recorded = record {
          same = db_of-push log (Forgot id) ∙ ap (λ (k : List StoredClause). forgotten k id) s.recorded.same;
          honest = honest-forgot log id s.recorded.honest may;
          over = λ c i. let (d, j, same) = clause-before db id c i in subst (AreLiterals vars) same (s.recorded.over d j);
        };
        trail = s.trail;
        sound = sound_kept db id [] 0 es untrue s.sound;
        levels = s.levels;
      };
      level = r.level;
    }

-- a mark costs nothing
pub paid_forgot : (log : List LogStep) (id left : ℕ) → IsHonest (log ++ Forgot id ∷ []) → IsHonestlyPaid log (log ++ Forgot id ∷ []) left left
paid_forgot log id left honest =
    let same = learned-push log (Forgot id) in
    record { paid = record { more = Forgot id ∷ []; grown = refl; inputs = inputs-push_forgot log id; paid = omega (arith, same) }; honest = honest }

-- one more literal of a clause is not true
pub untrue_more : (t c : List ℤ) (i : ℕ) (x : ℤ) → i < length c → x ≡ get_or c i x → ¬ In x t → ((l : ℤ) → In l (take i c) → ¬ In l t) → (l : ℤ) → In l (take (i + 1) c) → ¬ In l t
untrue_more t c i x h is out all l j = elim (In-take_more c i x l h j) [ inl old ↦ all l old | inr same ↦ subst (λ (k : ℤ). ¬ In k t) (is ∙ sym same) out ]

pub untrue_all : (t c : List ℤ) (i : ℕ) → length c ≤ i → ((l : ℤ) → In l (take i c) → ¬ In l t) → (l : ℤ) → In l c → ¬ In l t
untrue_all t c i past all = subst (λ (ls : List ℤ). (l : ℤ) → In l ls → ¬ In l t) (take_all i c past) all

-- with the lists built anew at level 0, a search for anything can begin
pub search_rebuilt : (s : Search) (store : Clauses) (walked : ℕ) (assumed : List ℤ) → IsStaleAtRoot s → IsKept store s.trail → KeepsClauses s.store store → s.assumed_levels ≡ 0 → s.assumed_true ≡ 0
    → IsSearch (record s { store = store; walked = walked }) assumed
search_rebuilt s store walked assumed stale kept same levels reached =
    search_root (record s { store = store; walked = walked }) assumed
    (record {
      vars = same.vars ∙ stale.vars;
      kept = kept;
      root = subst (λ (db : List StoredClause). IsRoot s.trail.vars db s.log s.trail.entries) (sym same.clauses) stale.root;
    })
    levels
    (subst (λ (n : ℕ). AllTrue (trues s.trail.entries) (take n assumed)) (sym reached) (λ l i. absurd i))
