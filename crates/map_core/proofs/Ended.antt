-- What is left where every worker has ended: if nothing is marked, the budget is spent, and the last entry found it so.
use Rattle.std.proofs.Common.{◌≡◌, ◌≢◌, ℕ, suc, ◌<◌, Bool, true, false, not, ◌||◌, List, [], ◌∷◌, ◌++◌, length, sum_by, Option, Some, None, refl, sym, ◌∙◌, ap, subst, inl, inr, arith, ltb}
use Rattle.std.specs.Prelude.{MatchOption}
use Rattle.std.specs.List.{list_any, AllByRecursion}
use Rattle.std.proofs.lemmas.Bool.{false≢true, true≢false, or_from, cases_Bool, ltb-true, ltb-false}
use Rattle.std.proofs.lemmas.List.Sums.{sum_by-cons}
use Rattle.lrat_steps.specs.Log.{LogStep}
use Rattle.sat_base.specs.Derivation.{Derivation}
use Rattle.gm_base.specs.Explored.{Found}
use Rattle.evidence_rec.specs.Seeding.{shows_all_explored}
use Rattle.map_core.specs.declared.entry.Entry.{Entry}
use Rattle.map_core.specs.declared.entry.Reply.TheVariants.{Dry}
use Rattle.map_core.specs.declared.turn.Worker.{Worker}
use Rattle.map_core.specs.declared.closing.Verdict.{Verdict}
use Rattle.map_core.specs.declared.closing.Verdict.TheVariants.{Complete, Settled, Budget}
use Rattle.evidence_rec.specs.Records.{founds}
use Rattle.map_core.specs.Core.{State, worker_at, is_told}
use Rattle.map_core.specs.Own.{calls_of, worker_of}
use Rattle.map_core.specs.Sound.{IsSound, IsUnmarked, purse_of, is_live}
use Rattle.map_core.specs.Kept.{KeepsProof, StandsDry}
use Rattle.map_core.specs.Closings.{verdict_by, is_cut_off, HaveEnded, EndsDry, HoldsAll}
use Rattle.map_core.proofs.Explored.{exhausted_holds_all}

no_purse : (ws : List Worker) → ((k : ℕ) → k < length ws → (worker_at ws k).purse ≡ 0) → sum_by purse_of ws ≡ 0
no_purse [] h = refl
no_purse (w ∷ ws) h =
    let first : w.purse ≡ 0 = h 0 (omega arith) in
    let rest = no_purse ws (λ k lt. h (suc k) (omega arith)) in
    let both = sum_by-cons purse_of w ws in omega arith

none_live : (ws : List Worker) → ((k : ℕ) → k < length ws → (worker_at ws k).ended ≡ true) → list_any is_live ws ≡ false
none_live [] h = refl
none_live (w ∷ ws) h =
    let first : w.ended ≡ true = h 0 (omega arith) in
    or_from (is_live w) (list_any is_live ws) (ap not first) (none_live ws (λ k lt. h (suc k) (omega arith)))

all_ended : (s : State) → IsSound s → HaveEnded s.opening s.history → (k : ℕ) → k < length s.workers
    → (worker_at s.workers k).ended ≡ true
all_ended s ok over k seat = ap (λ (x : Worker). x.ended) (ok.own k seat) ∙ over.at k (subst (λ n. k < n) ok.count seat)

-- the verdict is that the budget is spent only where nothing is marked
unmarked : (s : State) → verdict_by s.exhausted s.settled (is_cut_off s.history) s.stopped s.limited ≡ Budget → IsUnmarked s
unmarked s h =
    let marks = by s.exhausted s.settled (is_cut_off s.history) s.stopped s.limited h in
    record { exhausted = marks.0; settled = marks.1; limited = marks.3; stopped = marks.2 }
  where
    by : (a b j c d : Bool) → verdict_by a b j c d ≡ Budget → (a ≡ false) × (b ≡ false) × (c ≡ false) × (d ≡ false)
    by true b j c d h = absurd (cc)
    by false true j c d h = absurd (cc)
    by false false true c d h = absurd (cc)
    by false false false true d h = absurd (cc)
    by false false false false true h = absurd (cc)
    by false false false false false h = (refl, refl, refl, refl)

-- nothing is available, since no worker is left to use it, and no worker has a purse
pub spent_all : (s : State) → IsSound s → HaveEnded s.opening s.history
    → verdict_by s.exhausted s.settled (is_cut_off s.history) s.stopped s.limited ≡ Budget
    → s.spent ≡ s.opening.budget
spent_all s ok over h =
    let ends = all_ended s ok over in
    let purses = no_purse s.workers (λ k lt. ok.ended k (ends k lt)) in
    let budget = ok.budget in
    let none = unmarked s h in
    elim (cases_Bool (ltb 0 s.available)) [
      | inl some ↦
          let later = or_from s.limited s.stopped none.limited none.stopped in
          let told = or_from s.settled (s.limited || s.stopped) none.settled later in
          let marks = or_from s.exhausted (s.settled || (s.limited || s.stopped)) none.exhausted told in
          let live = none_live s.workers ends in
          let idle = or_from (list_any is_live s.workers) (s.exhausted || (s.settled || (s.limited || s.stopped))) live marks in
          absurd (false≢true (sym idle ∙ ok.live (ltb-true 0 s.available some)))
      | inr nothing ↦ let low = ltb-false 0 s.available nothing in omega arith
    ]

-- a list that is not empty has a last element
last_of : {X : Type 0} (xs : List X) → xs ≢ [] → (before : List X) × (x : X) × (xs ≡ before ++ x ∷ [])
last_of [] some = absurd (some refl)
last_of (x ∷ []) some = ([], x, refl)
last_of (x ∷ y ∷ zs) some = let (before, z, is) = last_of (y ∷ zs) (λ e. cc) in (x ∷ before, z, ap (λ ws. x ∷ ws) is)

all_at_last : {X : Type 0} (P : X → Type 0) (xs : List X) (y : X) → AllByRecursion P (xs ++ y ∷ []) → P y
all_at_last P [] y h = h.0
all_at_last P (x ∷ xs) y h = all_at_last P xs y h.1

-- a worker that made no call has not ended
has_entries : (s : State) → IsSound s → HaveEnded s.opening s.history → s.history ≢ []
has_entries s ok over none =
    false≢true (sym (ap (λ es. (worker_of (calls_of 0 es)).ended) none) ∙ over.at 0 ok.opening.some)

-- the last entry's worker has ended by it, and it found the budget spent
pub ends_dry : (s : State) → IsSound s → HaveEnded s.opening s.history
    → verdict_by s.exhausted s.settled (is_cut_off s.history) s.stopped s.limited ≡ Budget
    → (before : List Entry) × (e : Entry) × (s.history ≡ before ++ e ∷ []) × (e.reply ≡ Dry)
ends_dry s ok over h =
    let (before, e, is) = last_of s.history (has_entries s ok over) in
    let named = all_at_last is_seat before e (subst (AllByRecursion is_seat) is ok.named) in
    let seat : e.worker < length s.workers = subst (λ n. e.worker < n) (sym ok.count) named in
    (before, e, is, ok.last before e is (unmarked s h) (all_ended s ok over e.worker seat))
  where
    is_seat : Entry → Type 0
    is_seat x = x.worker < s.opening.workers

-- the same, with what the map's log says where that entry is a take's
pub closing_dry : (s : State) (log : List LogStep) → IsSound s → HaveEnded s.opening s.history → StandsDry s.history log
    → verdict_by s.exhausted s.settled (is_cut_off s.history) s.stopped s.limited ≡ Budget → EndsDry s.history log
closing_dry s log ok over stands h =
    let (before, e, is, dry) = ends_dry s ok over h in
    record { before = before; last = e; ends = is; dry = dry; undecided = λ take. stands before e is take dry }

complete_by : (a b j c d : Bool) → a ≡ true → verdict_by a b j c d ≡ Complete
complete_by true b j c d h = refl
complete_by false b j c d h = absurd (false≢true h)

not_complete : (a b j c d : Bool) → a ≡ false → verdict_by a b j c d ≢ Complete
not_complete true b j c d h e = true≢false h
not_complete false true j c d h e = cc
not_complete false false true c d h e = cc
not_complete false false false true d h e = cc
not_complete false false false false true h e = cc
not_complete false false false false false h e = cc

-- a proof that is kept goes with the verdict Complete, and with no other
pub closing_proof : (groups : ℕ) (found : List Found) (a b j c d : Bool) (v : Verdict) (proof : Option Derivation)
    → v ≡ verdict_by a b j c d
    → KeepsProof groups found a proof
    → MatchOption proof (v ≢ Complete) (λ x. (v ≡ Complete) × (shows_all_explored groups found x ≡ true))
closing_proof groups found a b j c d v None is h = λ e. not_complete a b j c d h (sym is ∙ e)
closing_proof groups found a b j c d v (Some x) is h = (is ∙ complete_by a b j c d h.0, h.1)

-- a complete enumeration holds all
pub closing_all : (s : State) (v : Verdict) → IsSound s → v ≡ verdict_by s.exhausted s.settled (is_cut_off s.history) s.stopped s.limited → v ≡ Complete
    → HoldsAll s.opening.problem s.records
closing_all s v ok is complete =
    let marked = exhausted_of s.exhausted s.settled (is_cut_off s.history) s.stopped s.limited (sym is ∙ complete) in
    record {
      conflicts = λ set is_set within. (exhausted_holds_all s set ok marked is_set within).0;
      corrections = λ set is_set within. (exhausted_holds_all s set ok marked is_set within).1;
    }
  where
    exhausted_of : (a b j c d : Bool) → verdict_by a b j c d ≡ Complete → a ≡ true
    exhausted_of true b j c d e = refl
    exhausted_of false true j c d e = cc
    exhausted_of false false true c d e = cc
    exhausted_of false false false true d e = cc
    exhausted_of false false false false true e = cc
    exhausted_of false false false false false e = cc

-- where the verdict is that all is told, it is
pub closing_told : (s : State) (v : Verdict) → IsSound s → v ≡ verdict_by s.exhausted s.settled (is_cut_off s.history) s.stopped s.limited → v ≡ Settled
    → is_told s.opening.goal s.opening.problem.groups (founds s.records) ≡ true
closing_told s v ok is told = ok.settled (settled_of s.exhausted s.settled (is_cut_off s.history) s.stopped s.limited (sym is ∙ told))
  where
    settled_of : (a b j c d : Bool) → verdict_by a b j c d ≡ Settled → b ≡ true
    settled_of true b j c d e = absurd (cc)
    settled_of false true j c d e = refl
    settled_of false false true c d e = absurd (cc)
    settled_of false false false true d e = absurd (cc)
    settled_of false false false false true e = absurd (cc)
    settled_of false false false false false e = absurd (cc)
