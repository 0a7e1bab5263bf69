-- What is kept between calls, where a clause comes and where another question begins.
use Rattle.std.proofs.Common.{◌≡◌, ◌⊎◌, ℕ, zero, suc, ◌+◌, ◌<◌, min, Bool, List, [], ◌∷◌, ◌++◌, take, Option, Some, None, refl, sym, ◌∙◌, ap, subst, inl, inr, arith}
use Rattle.std.specs.Prelude.{ℤ, true}
use Rattle.sat_base.specs.Members.{In}
use Rattle.sat_base.specs.Literals.{AreLiterals}
use Rattle.sat_base.specs.Database.{StoredClause, IsLive}
use Rattle.sat_base.specs.Units.{AllTrue, IsLoose}
use Rattle.sat_base.proofs.Members.{In-append_cases}
use Rattle.trail_book.specs.declared.entry.Entry.{Entry}
use Rattle.trail_book.specs.Trail.{trues, level_after, top, keep, IsTrail, IsTouched}
use Rattle.trail_book.proofs.TrailLemmas.{keep-whole, keep-skip, level_after-at_least}
use Rattle.propagate.specs.Propagation.{Grows}
use Rattle.propagate.specs.Entrance.{IsLooseBelow}
use Rattle.propagate.proofs.GrowsLemmas.{top_grows}
use Rattle.propagate.proofs.LevelLemmas.{keep_lower}
use Rattle.lrat_steps.specs.Log.{LogStep, Input, inputs_of}
use Rattle.lrat_steps.proofs.LogLemmas.{db_of-push, honest-input, inputs-push_input}
use Rattle.cdcl_core.specs.State.{IsSoundEntry, IsSound, IsState, ArePositive, IsTrueBy, AreTouched}
use Rattle.cdcl_core.specs.declared.search.Search.{Search}
use Rattle.cdcl_core.specs.Search.{IsSearch, IsAtRoot}
use Rattle.cdcl_core.proofs.SearchLemmas.{AtDecision, AtDecisions, NewIsLoose, more-append, sound_more, sound_grows, sound_keep, sound_recount, at_weaken}
use Rattle.cdcl_core.proofs.StateLemmas.{over-push}
use Rattle.cdcl_core.proofs.RootLemmas.{root_start}
use Rattle.cdcl_core.proofs.PositiveLemmas.{positive_keep, positive_recount, positive_grows, positive_root}

-- ---- a clause comes

abbrev LooseAt : List ℤ → List Entry → Type 0
LooseAt clause es = IsLoose (trues es) clause

-- what is loose below the top level is loose before each decision
loose_at_all : (clause : List ℤ) (es : List Entry) → IsLooseBelow es (top es) clause → AtDecisions (LooseAt clause) es
loose_at_all clause [] loose = tt
loose_at_all clause (e ∷ es) loose = (here e.reason refl, loose_at_all clause es (λ k below. lower k below))
  where
    lower : (k : ℕ) → k < top es → IsLoose (trues (keep k es)) clause
    lower k below =
        let more = level_after-at_least e.reason (top es) in
        subst (λ (xs : List Entry). IsLoose (trues xs) clause) (keep-skip k e es (omega (arith, below, more))) (loose k (omega (arith, below, more)))

    here : (r : Option ℕ) → e.reason ≡ r → AtDecision (LooseAt clause) es r
    here None is =
        let level : top (e ∷ es) ≡ top es + 1 = ap (λ (r : Option ℕ). level_after r (top es)) is in
        subst (λ (xs : List Entry). IsLoose (trues xs) clause) (keep-skip (top es) e es (omega (arith, level)) ∙ keep-whole (top es) es (omega arith)) (loose (top es) (omega (arith, level)))
    here (Some id) is = tt

sound_loose : (db : List StoredClause) (c : List ℤ) (assumed : List ℤ) (count : ℕ) (es : List Entry) → IsLooseBelow es (top es) c → IsSound db assumed count es
    → IsSound (db ++ record { lits = c; live = true } ∷ []) assumed count es
sound_loose db c assumed count es loose s =
    sound_more db (db ++ record { lits = c; live = true } ∷ []) assumed count es (more-append db (record { lits = c; live = true } ∷ []))
    (at_weaken (LooseAt c) (NewIsLoose db (db ++ record { lits = c; live = true } ∷ [])) es (λ xs l d live. new xs l d live) (loose_at_all c es loose)) s
  where
    new : (xs : List Entry) → IsLoose (trues xs) c → (d : List ℤ) → IsLive (db ++ record { lits = c; live = true } ∷ []) d → IsLive db d ⊎ IsLoose (trues xs) d
    new xs l d h = elim (In-append_cases (record { lits = d; live = true }) db (record { lits = c; live = true } ∷ []) h) [
      | inl there ↦ inl there
      | inr (inl same) ↦ inr (subst (IsLoose (trues xs)) (sym (ap (λ (k : StoredClause). k.lits) same)) l)
      | inr (inr none) ↦ absurd none
    ]

module _ (vars : ℕ) (db : List StoredClause) (log : List LogStep) (es new : List Entry) (lits assumed : List ℤ) (count left : ℕ)
    (grows : Grows (db ++ record { lits = lits; live = true } ∷ []) (keep (top new) es) new) (left_is : left ≡ min count (top new)) where
  low_top : top new ≡ top (keep (top new) es)
  low_top = top_grows (db ++ record { lits = lits; live = true } ∷ []) (keep (top new) es) new grows

  pub added_state : IsState vars db log es assumed count → AreLiterals vars lits → IsLooseBelow es (top new) lits → IsTrail vars new
      → IsState vars (db ++ record { lits = lits; live = true } ∷ []) (log ++ Input lits ∷ []) new assumed left
  added_state s over loose trail =
      let more = db ++ record { lits = lits; live = true } ∷ [] in
      let kept : IsSound db assumed left (keep (top new) es) =
      sound_recount db assumed count left (keep (top new) es) (omega (arith, left_is)) (λ n low high. omega (arith, left_is, low_top, low, high)) (sound_keep db assumed count (top new) es s.sound) in
      let still : IsLooseBelow (keep (top new) es) (top (keep (top new) es)) lits =
      λ k below. subst (λ (xs : List Entry). IsLoose (trues xs) lits) (sym (keep_lower k (top new) es (omega (arith, below, low_top)))) (loose k (omega (arith, below, low_top))) in
      record {
        recorded = record {
          same = db_of-push log (Input lits) ∙ ap (λ (k : List StoredClause). k ++ record { lits = lits; live = true } ∷ []) s.recorded.same;
          honest = honest-input log lits s.recorded.honest;
          over = over-push vars db (record { lits = lits; live = true }) s.recorded.over over;
        };
        trail = trail;
        sound = sound_grows more assumed left (keep (top new) es) new grows (sound_loose db lits assumed left (keep (top new) es) still kept);
        levels = omega (arith, left_is);
      }

  pub added_positive : ArePositive count es → ArePositive left new
  added_positive p =
      positive_grows (db ++ record { lits = lits; live = true } ∷ []) left (keep (top new) es) new grows
      (positive_recount count left (keep (top new) es) (λ n low above. omega (arith, left_is, low_top, low, above)) (positive_keep count (top new) es p))

-- what is touched stays so, and what the clause has against the default is touched besides
pub added_touched : (default : Bool) (old new : List Bool) (log more : List LogStep) (lits : List ℤ) → more ≡ log ++ Input lits ∷ [] → AreTouched default old (inputs_of log)
    → ((l : ℤ) → IsTouched old l → IsTouched new l) → ((l : ℤ) → In l lits → IsTouched new l ⊎ IsTrueBy default l) → AreTouched default new (inputs_of more)
added_touched default old new log more lits is are stay here c i l j =
    elim (In-append_cases c (inputs_of log) (lits ∷ []) (subst (In c) (ap inputs_of is ∙ inputs-push_input log lits) i)) [
      | inl before ↦ elim (are c before l j) [ inl t ↦ inl (stay l t) | inr free ↦ inr free ]
      | inr (inl same) ↦ here l (subst (In l) same j)
      | inr (inr none) ↦ absurd none
    ]

-- ---- another question begins

-- where no level is assumed, the trail is as good where nothing is assumed
sound_free : (db : List StoredClause) (assumed : List ℤ) (es : List Entry) (count : ℕ) → count ≡ 0 → IsSound db assumed count es → IsSound db [] count es
sound_free db assumed [] count none s = tt
sound_free db assumed (e ∷ es) count none s = (entry e.reason s.0, s.1, sound_free db assumed es count none s.2)
  where
    entry : (r : Option ℕ) → IsSoundEntry db assumed count es e.lit r → IsSoundEntry db [] count es e.lit r
    entry (Some id) h = h
    entry None (inl d, f) = let low = d.0 in absurd (omega (arith, low, none))
    entry None (inr d, f) = (inr (d.0, λ l i. absurd i), f)

pub state_free : (vars : ℕ) (db : List StoredClause) (log : List LogStep) (es : List Entry) (assumed : List ℤ) (count : ℕ) → count ≡ 0 → IsState vars db log es assumed count → IsState vars db log es [] count
state_free vars db log es assumed count none s = record { recorded = s.recorded; trail = s.trail; sound = sound_free db assumed es count none s.sound; levels = s.levels }

none_taken : (n : ℕ) (l : ℤ) → ¬ In l (take n [])
none_taken zero l i = i
none_taken (suc n) l i = i

-- at level 0 a search for anything can begin
pub search_root : (s : Search) (assumed : List ℤ) → IsAtRoot s → s.assumed_levels ≡ 0 → AllTrue (trues s.trail.entries) (take s.assumed_true assumed) → IsSearch s assumed
search_root s assumed at none reached = record {
  vars = at.vars;
  kept = at.kept;
  state = subst (IsState s.trail.vars s.store.clauses s.log s.trail.entries assumed) (sym none) (root_start s.trail.vars s.store.clauses s.log s.trail.entries assumed at.root);
  reached = reached;
  positive = λ asked. positive_root s.assumed_levels s.trail.entries at.root.level;
}

pub search_root_free : (s : Search) → IsAtRoot s → s.assumed_levels ≡ 0 → IsSearch s []
search_root_free s at none = search_root s [] at none (λ l i. absurd (none_taken s.assumed_true l i))
