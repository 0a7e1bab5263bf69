-- A clause that has just come, and the store and the trail at first.
use Rattle.std.proofs.Common.{◌≡◌, ℕ, ◌*◌, ◌/◌, ◌%◌, ◌<◌, List, [], ◌∷◌, ◌++◌, Option, Some, None, true, false, length, refl, sym, ◌∙◌, ap, subst, get_or, arith}
use Rattle.std.specs.Prelude.{ℤ}
use Rattle.std.proofs.lemmas.Bool.{false≢true}
use Rattle.std.proofs.lemmas.List.{length_push}
use Rattle.sat_base.specs.Database.{StoredClause}
use Rattle.clause_store.specs.Clauses.{Clauses, clause_at, IsId}
use Rattle.clause_store.specs.Links.{KeepsLinks, watched_at, head_of, tail_of, park_of, literal_by}
use Rattle.trail_book.specs.Trail.{Trail, top}
use Rattle.propagate.specs.Watches.{IsKeptBut, IsKept}
use Rattle.propagate.specs.Entrance.{IsUnwatched}
use Rattle.propagate.proofs.KeptLemmas.{clause_new, kept_added, kept_settled}
use Rattle.propagate.proofs.WalkLemmas.{not_zero}

-- what no clause has is watched by none
idle_beyond : (s : Clauses) (t : Trail) (but id : ℕ) → IsKeptBut s t but → length s.clauses < id → (o : Option (ℤ × ℤ)) → watched_at s id ≡ o → watched_at s id ≡ None
idle_beyond s t but id k far None e = e
idle_beyond s t but id k far (Some pair) e =
    let half : (2 * id) / 2 ≡ id = omega arith in
    let is = k.hung.watches.id (2 * id) (λ f. some_none pair (sym e ∙ ap (watched_at s) (sym half) ∙ f)) in
    let high = is.within in
    absurd (omega (arith, high, half, far))
  where
    some_none : (pair : ℤ × ℤ) → ◌≡◌ {A = Option (ℤ × ℤ)} (Some pair) None → ⊥
    some_none pair e = cc

-- the clause is there, and watches nothing
pub new_clause : (s s' : Clauses) (t : Trail) (id : ℕ) (lits : List ℤ) → IsKept s t → KeepsLinks s s' → s'.clauses ≡ s.clauses ++ record { lits = lits; live = true } ∷ [] → id ≡ length s'.clauses → IsUnwatched s' id lits
new_clause s s' t id lits k links stored here =
    let c : StoredClause = record { lits = lits; live = true } in
    let long = ap length stored ∙ length_push s.clauses c in
    let last = ap (λ (db : List StoredClause). clause_at db id) stored ∙ clause_new s.clauses c id (here ∙ ap length stored) in
    record {
      is_id = record { from_one = omega (arith, here, long); within = omega (arith, here) };
      lits_are = ap (λ (x : StoredClause). x.lits) last;
      live = ap (λ (x : StoredClause). x.live) last;
      idle = links.watched id ∙ idle_beyond s t 0 id k (omega (arith, here, long)) (watched_at s id) refl;
    }

-- also where only lists have changed since
pub unwatched_same : (s s' : Clauses) (id : ℕ) (lits : List ℤ) → s'.clauses ≡ s.clauses → s'.watched ≡ s.watched → IsUnwatched s id lits → IsUnwatched s' id lits
unwatched_same s s' id lits clauses watched u = record {
  is_id = subst (λ (db : List StoredClause). IsId db id) (sym clauses) u.is_id;
  lits_are = ap (λ (db : List StoredClause). (clause_at db id).lits) clauses ∙ u.lits_are;
  live = ap (λ (db : List StoredClause). (clause_at db id).live) clauses ∙ u.live;
  idle = ap (λ (ws : List (Option (ℤ × ℤ))). get_or (None ∷ ws) id None) watched ∙ u.idle;
}

-- and all but it is kept
pub new_kept : (s s' : Clauses) (t : Trail) (id : ℕ) (lits : List ℤ) → IsKept s t → KeepsLinks s s' → s'.clauses ≡ s.clauses ++ record { lits = lits; live = true } ∷ [] → s'.vars ≡ s.vars → id ≡ length s'.clauses → IsKeptBut s' t id
new_kept s s' t id lits k links stored vars here = kept_added s s' (record { lits = lits; live = true }) links stored vars t id here k

-- a core is not live
pub core_kept : (s s' : Clauses) (t : Trail) (id : ℕ) (lits : List ℤ) → IsKept s t → KeepsLinks s s' → s'.clauses ≡ s.clauses ++ record { lits = lits; live = false } ∷ [] → s'.vars ≡ s.vars → id ≡ length s'.clauses → IsKept s' t
core_kept s s' t id lits k links stored vars here =
    let c : StoredClause = record { lits = lits; live = false } in
    let last = ap (λ (db : List StoredClause). clause_at db id) stored ∙ clause_new s.clauses c id (here ∙ ap length stored) in
    kept_settled s' t id (λ live. absurd (false≢true (sym (ap (λ (x : StoredClause). x.live) last) ∙ live))) (kept_added s s' c links stored vars t id here k)

-- no clause, no value
pub kept_first : (s : Clauses) (t : Trail) → s.vars ≡ t.vars → s.clauses ≡ [] → ((id : ℕ) → watched_at s id ≡ None) → ((lit : ℤ) → head_of s lit ≡ 0) → ((lit : ℤ) → tail_of s lit ≡ 0) → ((lit : ℤ) → park_of s lit ≡ 0) → s.false_id ≡ 0
    → t.entries ≡ [] → t.done ≡ 0 → IsKept s t
kept_first s t vars clauses watched heads tails parks none entries done = record {
  vars = vars;
  done = omega (arith, done);
  fresh = λ level below. absurd (omega (arith, below, ap top entries));
  hung = record {
    parked = λ n. false;
    listed = λ lit is. record {
      nodes = [];
      linked = record { chain = heads lit; end = tails lit; apart = tt };
      watches = record {
        members = λ n i. absurd i;
        unparked = λ n i. absurd i;
        complete = λ n w u. not_zero s.vars lit is (sym w ∙ ap (λ (p : Option (ℤ × ℤ)). literal_by p (n % 2)) (watched (n / 2)));
      };
    };
    under = λ lit is. record { nodes = []; chain = parks lit; apart = tt; members = λ n i. absurd i; complete = λ n u. absurd (false≢true u.is_parked) };
    satisfied = λ n m p q. absurd (false≢true p);
    parked_watch = λ n p. absurd (false≢true p);
    watches = record {
      id = λ n w. absurd (w (watched (n / 2)));
      live = λ n w. absurd (w (watched (n / 2)));
      stands = λ n w. absurd (w (watched (n / 2)));
      differ = λ n m p w. absurd (w (watched (n / 2)));
      guarded = λ n m p w. absurd (w (watched (n / 2)));
    };
  };
  settled = λ f id ne is live idle. let low = is.from_one in let high = is.within in absurd (omega (arith, low, high, ap length clauses));
  false_clause = λ some. absurd (some none);
}
