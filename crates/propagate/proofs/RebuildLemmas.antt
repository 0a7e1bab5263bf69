-- Lists that are built anew, watch by watch in the order of their numbers.
use Rattle.std.proofs.Common.{◌≡◌, ◌≢◌, ℕ, ◌+◌, ◌-◌, ◌*◌, ◌/◌, ◌%◌, ◌<◌, ◌≤◌, List, [], ◌∷◌, ◌++◌, length, get_or, Option, Some, None, refl, sym, ◌∙◌, ap, subst, inl, inr, arith, true, false}
use Rattle.std.specs.Prelude.{ℤ}
use Rattle.std.proofs.lemmas.Bool.{cases_eq, cases_lt, false≢true}
use Rattle.std.proofs.lemmas.List.{get_or-set_same, get_or-set_other}
use Rattle.sat_base.specs.Members.{In}
use Rattle.sat_base.specs.Literals.{IsLiteral}
use Rattle.sat_base.specs.Database.{StoredClause, AreOver}
use Rattle.sat_base.specs.Forgotten.{not_live, named, forgotten}
use Rattle.sat_base.proofs.Members.{In-append_left, In-append_right, In-append_cases}
use Rattle.sat_base.proofs.ForgottenLemmas.{length-forgotten}
use Rattle.clause_store.specs.Clauses.{Clauses, clause_at, no_clause, IsId}
use Rattle.clause_store.specs.Links.{watched_at, watch_of, head_of, tail_of, park_of, literal_by}
use Rattle.trail_book.specs.Trail.{Trail}
use Rattle.propagate.specs.Lists.{last_of}
use Rattle.propagate.specs.Watches.{IsLinked, IsWatch, IsSettled, IsKept}
use Rattle.propagate.specs.Rebuild.{IsStale, IsListedTo, IsRelisted}
use Rattle.propagate.specs.Walk.{IsNode, Appends}
use Rattle.propagate.proofs.ListLemmas.{AreNodes, last_in, appended, appended_other}
use Rattle.propagate.proofs.WalkLemmas.{is_watch, watched_some}
use Rattle.propagate.proofs.MoveLemmas.{cases_literal}
use Rattle.propagate.proofs.StepLemmas.{watch_rest, watch_first, watch_second}
use Rattle.propagate.proofs.EntranceLemmas.{literal_of_clause}

-- what is kept is stale, if one will
pub stale_kept : (s : Clauses) (t : Trail) → IsKept s t → IsStale s t
stale_kept s t k = record {
  vars = k.vars;
  done = k.done;
  fresh = k.fresh;
  id = k.hung.watches.id;
  stands = k.hung.watches.stands;
  differ = k.hung.watches.differ;
  guarded = k.hung.watches.guarded;
  settled = λ none id is live idle. let low = is.from_one in k.settled none id (λ e. absurd (omega arith)) is live idle;
  false_clause = k.false_clause;
}

nodes_of : (s : Clauses) (t : Trail) (lit : ℤ) (ns : List ℕ) → IsStale s t → IsLiteral s.vars lit → ((n : ℕ) → In n ns → watch_of s n ≡ lit) → AreNodes ns
nodes_of s t lit ns k is all m i = (k.id m (is_watch s lit m is (all m i))).from_one

-- the last watch of a list, if there is one
last_is : (s : Clauses) (t : Trail) (lit : ℤ) (ns : List ℕ) → IsStale s t → IsLiteral s.vars lit → ((n : ℕ) → In n ns → watch_of s n ≡ lit) → IsNode s lit (last_of 0 ns / 2) (last_of 0 ns)
last_is s t lit [] k is all = record {
  half = refl;
  none = λ e. refl;
  watches = λ any. absurd (any (omega arith));
  alone = λ any. absurd (any (omega arith));
}
last_is s t lit (n ∷ ns) k is all =
    let last = last_of n ns in
    let w : watch_of s last ≡ lit = all last (last_in n ns) in
    record {
      half = refl;
      none = λ e. let low = (k.id last (is_watch s lit last is w)).from_one in absurd (omega (arith, e, low));
      watches = λ any. w;
      alone = λ any m p e. k.differ last m p (is_watch s lit last is w) (w ∙ sym e);
    }

pub tail_is : (s : Clauses) (t : Trail) (b : ℕ) (lit : ℤ) (r : IsRelisted s t b) (is : IsLiteral s.vars lit) → IsNode s lit (tail_of s lit) (last_of 0 (r.listed lit is).nodes)
tail_is s t b lit r is =
    let l = r.listed lit is in subst (λ (i : ℕ). IsNode s lit i (last_of 0 l.nodes)) (sym l.linked.end) (last_is s t lit l.nodes r.stale is l.members)

pub tail_watched : (s : Clauses) (t : Trail) (b : ℕ) (lit : ℤ) → IsRelisted s t b → IsLiteral s.vars lit → tail_of s lit ≢ 0 → watched_at s (tail_of s lit) ≢ None
tail_watched s t b lit r is some = at l.nodes l.linked.end l.members
  where
    l : IsListedTo s b lit
    l = r.listed lit is

    at : (ns : List ℕ) → tail_of s lit ≡ last_of 0 ns / 2 → ((n : ℕ) → In n ns → watch_of s n ≡ lit) → watched_at s (tail_of s lit) ≢ None
    at [] e all = absurd (some (omega (arith, e)))
    at (x ∷ xs) e all = watched_some s (last_of x xs) (tail_of s lit) (sym e) (is_watch s lit (last_of x xs) is (all (last_of x xs) (last_in x xs)))

-- it does not look at links
stale_links : (s : Clauses) (t : Trail) (nexts : List (List ℕ)) (heads tails parks : List ℕ) → IsStale s t → IsStale (record s { nexts = nexts; heads = heads; tails = tails; parks = parks }) t
stale_links s t nexts heads tails parks k = record {
  vars = k.vars;
  done = k.done;
  fresh = k.fresh;
  id = k.id;
  stands = k.stands;
  differ = k.differ;
  guarded = k.guarded;
  settled = k.settled;
  false_clause = k.false_clause;
}

stale_rest : (s s' : Clauses) (t : Trail) → s' ≡ record s { nexts = s'.nexts; heads = s'.heads; tails = s'.tails } → IsStale s t → IsStale s' t
stale_rest s s' t e k = subst (λ (x : Clauses). IsStale x t) (sym e) (stale_links s t s'.nexts s'.heads s'.tails s.parks k)

-- one more watch comes to the list of its literal
module _ (s s' : Clauses) (t : Trail) (n : ℕ) (lit : ℤ) (r : IsRelisted s t n) (w : watch_of s n ≡ lit) (is : IsLiteral s.vars lit) (live : (clause_at s.clauses (n / 2)).live ≡ true)
    (on : (node : ℕ) → IsNode s lit (tail_of s lit) node → Appends s s' lit node n) (rest : s' ≡ record s { nexts = s'.nexts; heads = s'.heads; tails = s'.tails }) where
  abbrev l : IsListedTo s n lit
  l = r.listed lit is

  a : Appends s s' lit (last_of 0 l.nodes) n
  a = on (last_of 0 l.nodes) (tail_is s t n lit r is)

  same : (m : ℕ) → watch_of s' m ≡ watch_of s m
  same m = watch_rest s s' m rest

  out : (y : ℤ) (k : IsListedTo s n y) → ¬ In n k.nodes
  out y k i = let lt = k.below n i in omega arith

  own : IsListedTo s' (n + 1) lit
  own = record {
    nodes = l.nodes ++ n ∷ [];
    linked = appended s s' lit (last_of 0 l.nodes) n a l.nodes refl (nodes_of s t lit l.nodes r.stale is l.members) (out lit l) l.linked;
    members = λ m i. same m ∙ elim (In-append_cases m l.nodes (n ∷ []) i) [
      | inl j ↦ l.members m j
      | inr (inl e) ↦ ap (watch_of s) e ∙ w
      | inr (inr none) ↦ absurd none
    ];
    below = λ m i. elim (In-append_cases m l.nodes (n ∷ []) i) [
      | inl j ↦ let lt = l.below m j in omega arith
      | inr (inl e) ↦ omega arith
      | inr (inr none) ↦ absurd none
    ];
    complete = λ m lt x. elim (cases_lt m n) [
      | inl under ↦ In-append_left m l.nodes (n ∷ []) (l.complete m under (sym (same m) ∙ x))
      | inr over ↦ In-append_right m l.nodes (n ∷ []) (inl (omega arith))
    ];
  }

  last_out : (y : ℤ) (ns ms : List ℕ) → y ≢ lit → AreNodes ns → ((m : ℕ) → In m ns → watch_of s m ≡ y) → ((m : ℕ) → In m ms → watch_of s m ≡ lit) → ¬ In (last_of 0 ms) ns
  last_out y ns [] d nodes all all_lit i = let some = nodes 0 i in absurd (omega arith)
  last_out y ns (x ∷ xs) d nodes all all_lit i = d (sym (all (last_of x xs) i) ∙ all_lit (last_of x xs) (last_in x xs))

  other : (y : ℤ) → IsLiteral s.vars y → y ≢ lit → IsListedTo s' (n + 1) y
  other y y_is d =
      let k = r.listed y y_is in
      let nodes = nodes_of s t y k.nodes r.stale y_is k.members in
      record {
        nodes = k.nodes;
        linked = appended_other s s' lit (last_of 0 l.nodes) n a y k.nodes d nodes (last_out y k.nodes l.nodes d nodes k.members l.members) (out y k) k.linked;
        members = λ m i. same m ∙ k.members m i;
        below = λ m i. let lt = k.below m i in omega arith;
        complete = λ m lt x. elim (cases_lt m n) [
          | inl under ↦ k.complete m under (sym (same m) ∙ x)
          | inr over ↦ let e : m ≡ n = omega arith in absurd (d (sym x ∙ same m ∙ ap (watch_of s) e ∙ w))
        ];
      }

  pub relisted_more : IsRelisted s' t (n + 1)
  relisted_more = record {
    stale = stale_rest s s' t rest r.stale;
    listed = λ y y_is'. let y_is : IsLiteral s.vars y = subst (λ (v : ℕ). IsLiteral v y) (ap (λ (x : Clauses). x.vars) rest) y_is' in elim (cases_literal y lit) [
      | inl e ↦ subst (IsListedTo s' (n + 1)) (sym e) own
      | inr d ↦ other y y_is d
    ];
    parks = λ y y_is. ap (λ (x : Clauses). park_of x y) rest ∙ r.parks y (subst (λ (v : ℕ). IsLiteral v y) (ap (λ (x : Clauses). x.vars) rest) y_is);
    live = λ m lt x. subst (λ (db : List StoredClause). (clause_at db (m / 2)).live ≡ true) (sym (ap (λ (k : Clauses). k.clauses) rest)) (elim (cases_lt m n) [
      | inl under ↦ r.live m under (λ e. x (ap (λ (k : Clauses). watched_at k (m / 2)) rest ∙ e))
      | inr over ↦ let e : n ≡ m = omega arith in subst (λ (k : ℕ). (clause_at s.clauses (k / 2)).live ≡ true) e live
    ]);
  }

-- a clause that is not watched is in no list
pub relisted_skip : (s : Clauses) (t : Trail) (id : ℕ) → IsRelisted s t (2 * id) → watched_at s id ≡ None → IsRelisted s t (2 * id + 2)
relisted_skip s t id r idle = record {
  stale = r.stale;
  listed = λ y is. let k = r.listed y is in record {
    nodes = k.nodes;
    linked = k.linked;
    members = k.members;
    below = λ m i. let lt = k.below m i in omega arith;
    complete = λ m lt x. elim (cases_lt m (2 * id)) [
      | inl under ↦ k.complete m under x
      | inr over ↦ let half : m / 2 ≡ id = omega arith in absurd (is_watch s y m is x (ap (watched_at s) half ∙ idle))
    ];
  };
  parks = r.parks;
  live = λ m lt x. elim (cases_lt m (2 * id)) [
    | inl under ↦ r.live m under x
    | inr over ↦ let half : m / 2 ≡ id = omega arith in absurd (x (ap (watched_at s) half ∙ idle))
  ];
}

-- a clause that is not live watches nothing more
module _ (s s' : Clauses) (t : Trail) (id : ℕ) (r : IsRelisted s t (2 * id)) (dead : (clause_at s.clauses id).live ≡ false) (set : watched_at s' id ≡ None)
    (others : (i : ℕ) → i ≢ id → watched_at s' i ≡ watched_at s i) (rest : s' ≡ record s { watched = s'.watched }) where
  far_watch : (m : ℕ) → IsWatch s' m → m / 2 ≢ id
  far_watch m w half = w (ap (watched_at s') half ∙ set)

  was_watch : (m : ℕ) → IsWatch s' m → IsWatch s m
  was_watch m w e = w (others (m / 2) (far_watch m w) ∙ e)

  same_watch : (m : ℕ) → m / 2 ≢ id → watch_of s' m ≡ watch_of s m
  same_watch m far = ap (λ (p : Option (ℤ × ℤ)). literal_by p (m % 2)) (others (m / 2) far)

  clauses_are : s'.clauses ≡ s.clauses
  clauses_are = ap (λ (x : Clauses). x.clauses) rest

  pub dropped_stale : IsStale s' t
  dropped_stale = record {
    vars = ap (λ (x : Clauses). x.vars) rest ∙ r.stale.vars;
    done = r.stale.done;
    fresh = r.stale.fresh;
    id = λ n w. subst (λ (db : List StoredClause). IsId db (n / 2)) (sym clauses_are) (r.stale.id n (was_watch n w));
    stands = λ n w. subst (λ (db : List StoredClause). In (watch_of s' n) (clause_at db (n / 2)).lits) (sym clauses_are)
        (subst (λ (l : ℤ). In l (clause_at s.clauses (n / 2)).lits) (sym (same_watch n (far_watch n w))) (r.stale.stands n (was_watch n w)));
    differ = λ n m p w f. r.stale.differ n m p (was_watch n w) (sym (same_watch n (far_watch n w)) ∙ f ∙ same_watch m (λ e. far_watch n w (p.same ∙ e)));
    guarded = λ n m p w. rw (same_watch n (far_watch n w), same_watch m (λ e. far_watch n w (p.same ∙ e))) (r.stale.guarded n m p (was_watch n w));
    settled = λ none i is live idle. subst (λ (db : List StoredClause). IsSettled db t.entries i) (sym clauses_are) (elim (cases_eq i id) [
      | inl e ↦ absurd (false≢true (sym dead ∙ ap (λ (k : ℕ). (clause_at s.clauses k).live) (sym e) ∙ ap (λ (db : List StoredClause). (clause_at db i).live) (sym clauses_are) ∙ live))
      | inr far ↦ r.stale.settled (sym (ap (λ (x : Clauses). x.false_id) rest) ∙ none) i (subst (λ (db : List StoredClause). IsId db i) clauses_are is)
          (ap (λ (db : List StoredClause). (clause_at db i).live) (sym clauses_are) ∙ live) (sym (others i far) ∙ idle)
    ]);
    false_clause = λ any. rw (clauses_are, ap (λ (x : Clauses). x.false_id) rest) (r.stale.false_clause (λ e. any (ap (λ (x : Clauses). x.false_id) rest ∙ e)));
  }

  kept_linked : (y : ℤ) (ns : List ℕ) → IsLinked s y ns → IsLinked s' y ns
  kept_linked y ns l = subst (λ (x : Clauses). IsLinked x y ns) (sym rest) (record { chain = l.chain; end = l.end; apart = l.apart })

  pub relisted_dropped : IsRelisted s' t (2 * id + 2)
  relisted_dropped = relisted_skip s' t id
      (record {
        stale = dropped_stale;
        listed = λ y is'. let is : IsLiteral s.vars y = subst (λ (v : ℕ). IsLiteral v y) (ap (λ (x : Clauses). x.vars) rest) is' in let k = r.listed y is in record {
          nodes = k.nodes;
          linked = kept_linked y k.nodes k.linked;
          members = λ m i. let lt = k.below m i in same_watch m (λ e. absurd (omega arith)) ∙ k.members m i;
          below = k.below;
          complete = λ m lt x. k.complete m lt (sym (same_watch m (λ e. absurd (omega arith))) ∙ x);
        };
        parks = λ y y_is. ap (λ (x : Clauses). park_of x y) rest ∙ r.parks y (subst (λ (v : ℕ). IsLiteral v y) (ap (λ (x : Clauses). x.vars) rest) y_is);
        live = λ m lt w. subst (λ (db : List StoredClause). (clause_at db (m / 2)).live ≡ true) (sym clauses_are) (r.live m lt (was_watch m w));
      })
      set

-- at first all lists are empty
pub relisted_first : (s s' : Clauses) (t : Trail) → IsStale s t → ((y : ℤ) → IsLiteral s.vars y → head_of s' y ≡ 0) → ((y : ℤ) → IsLiteral s.vars y → tail_of s' y ≡ 0)
    → ((y : ℤ) → IsLiteral s.vars y → park_of s' y ≡ 0) → s' ≡ record s { heads = s'.heads; tails = s'.tails; parks = s'.parks } → IsRelisted s' t 2
relisted_first s s' t k heads tails parks rest =
    let stale : IsStale s' t = subst (λ (x : Clauses). IsStale x t) (sym rest) (stale_links s t s.nexts s'.heads s'.tails s'.parks k) in
    record {
      stale = stale;
      listed = λ y is'. let is : IsLiteral s.vars y = subst (λ (v : ℕ). IsLiteral v y) (ap (λ (x : Clauses). x.vars) rest) is' in record {
        nodes = [];
        linked = record { chain = heads y is; end = let none = tails y is in omega arith; apart = tt };
        members = λ m i. absurd i;
        below = λ m i. absurd i;
        complete = λ m lt x. let low = (stale.id m (is_watch s' y m is' x)).from_one in absurd (omega arith);
      };
      parks = λ y y_is. parks y (subst (λ (v : ℕ). IsLiteral v y) (ap (λ (x : Clauses). x.vars) rest) y_is);
      live = λ m lt w. let low = (stale.id m w).from_one in absurd (omega arith);
    }

-- where all clauses have come the lists are whole
pub relisted_all : (s : Clauses) (t : Trail) (id : ℕ) → IsRelisted s t (2 * id + 2) → length s.clauses ≤ id → IsKept s t
relisted_all s t id r all = record {
  vars = r.stale.vars;
  done = r.stale.done;
  fresh = r.stale.fresh;
  hung = record {
    parked = λ n. false;
    listed = λ y is. let k = r.listed y is in record {
      nodes = k.nodes;
      linked = k.linked;
      watches = record { members = k.members; unparked = λ n i. refl; complete = λ n w u. k.complete n (under n (is_watch s y n is w)) w };
    };
    under = λ y is. record { nodes = []; chain = r.parks y is; apart = tt; members = λ n i. absurd i; complete = λ n u. absurd (false≢true u.is_parked) };
    satisfied = λ n m p q. absurd (false≢true p);
    parked_watch = λ n p. absurd (false≢true p);
    watches = record {
      id = r.stale.id;
      live = λ n w. r.live n (under n w) w;
      stands = r.stale.stands;
      differ = r.stale.differ;
      guarded = r.stale.guarded;
    };
  };
  settled = λ none i ne is live idle. r.stale.settled none i is live idle;
  false_clause = r.stale.false_clause;
}
  where
    under : (n : ℕ) → IsWatch s n → n < 2 * id + 2
    under n w = let high = (r.stale.id n w).within in omega arith

-- both watches of a live clause come to their lists
module _ (s : Clauses) (t : Trail) (id : ℕ) (first second : ℤ) (r : IsRelisted s t (2 * id)) (is : IsId s.clauses id) (live : (clause_at s.clauses id).live ≡ true)
    (here : watched_at s id ≡ Some (first, second)) (over : AreOver s.vars s.clauses) where
  some_pair : ◌≡◌ {A = Option (ℤ × ℤ)} (Some (first, second)) None → ⊥
  some_pair e = cc

  watch_here : (n : ℕ) → n / 2 ≡ id → IsWatch s n
  watch_here n half e = some_pair (sym here ∙ ap (watched_at s) (sym half) ∙ e)

  literal_here : (n : ℕ) (lit : ℤ) → n / 2 ≡ id → watch_of s n ≡ lit → IsLiteral s.vars lit
  literal_here n lit half w =
      literal_of_clause s.vars s.clauses id lit over is
      (subst (λ (i : ℕ). In lit (clause_at s.clauses i).lits) half (subst (λ (l : ℤ). In l (clause_at s.clauses (n / 2)).lits) w (r.stale.stands n (watch_here n half))))

  first_watch : (n : ℕ) → n ≡ 2 * id → watch_of s n ≡ first
  first_watch n e = watch_first s s id (first, second) here (λ i ne. refl) n e

  second_watch : (n : ℕ) → n ≡ 2 * id + 1 → watch_of s n ≡ second
  second_watch n e = watch_second s s id (first, second) here (λ i ne. refl) n e

  pub first_literal : IsLiteral s.vars first
  first_literal = literal_here (2 * id) first (omega arith) (first_watch (2 * id) refl)

  pub second_literal : IsLiteral s.vars second
  second_literal = literal_here (2 * id + 1) second (omega arith) (second_watch (2 * id + 1) refl)

  module _ (s₁ : Clauses) (one : (node : ℕ) → IsNode s first (tail_of s first) node → Appends s s₁ first node (2 * id + 0)) (rest : s₁ ≡ record s { nexts = s₁.nexts; heads = s₁.heads; tails = s₁.tails }) where
    pub relisted_first_watch : IsRelisted s₁ t (2 * id + 1)
    relisted_first_watch =
        let none : 2 * id ≡ 2 * id + 0 = omega arith in
        let half : id ≡ (2 * id + 0) / 2 = omega arith in
        let next : 2 * id + 0 + 1 ≡ 2 * id + 1 = omega arith in
        subst (IsRelisted s₁ t) next
        (relisted_more s s₁ t (2 * id + 0) first (subst (IsRelisted s t) none r) (first_watch (2 * id + 0) (sym none)) first_literal (subst (λ (i : ℕ). (clause_at s.clauses i).live ≡ true) half live) one rest)

    pub second_literal_next : IsLiteral s₁.vars second
    second_literal_next = subst (λ (v : ℕ). IsLiteral v second) (sym (ap (λ (x : Clauses). x.vars) rest)) second_literal

    pub relisted_both : (s₂ : Clauses) → ((node : ℕ) → IsNode s₁ second (tail_of s₁ second) node → Appends s₁ s₂ second node (2 * id + 1))
        → s₂ ≡ record s₁ { nexts = s₂.nexts; heads = s₂.heads; tails = s₂.tails } → IsRelisted s₂ t (2 * id + 2)
    relisted_both s₂ two rest₂ =
        let half : id ≡ (2 * id + 1) / 2 = omega arith in
        let next : 2 * id + 1 + 1 ≡ 2 * id + 2 = omega arith in
        let live_next : (clause_at s₁.clauses ((2 * id + 1) / 2)).live ≡ true =
        subst (λ (i : ℕ). (clause_at s₁.clauses i).live ≡ true) half (ap (λ (x : Clauses). (clause_at x.clauses id).live) rest ∙ live) in
        subst (IsRelisted s₂ t) next
        (relisted_more s₁ s₂ t (2 * id + 1) second relisted_first_watch (watch_rest s s₁ (2 * id + 1) rest ∙ second_watch (2 * id + 1) refl) second_literal_next live_next two rest₂)

-- a clause that is forgotten leaves all but the lists as it is
forgotten_same : (db : List StoredClause) (id i : ℕ) → i - 1 ≢ id - 1 → clause_at (forgotten db id) i ≡ clause_at db i
forgotten_same db id i ne = get_or-set_other db (id - 1) (i - 1) (not_live (named db id)) no_clause ne

forgotten_lits : (db : List StoredClause) (id i : ℕ) → IsId db i → (clause_at (forgotten db id) i).lits ≡ (clause_at db i).lits
forgotten_lits db id i is =
    let low = is.from_one in
    let high = is.within in
    elim (cases_eq (i - 1) (id - 1)) [
      | inl e ↦
          let within : id - 1 < length db = omega arith in
          ap (λ (k : ℕ). (get_or (forgotten db id) k no_clause).lits) e
          ∙ ap (λ (c : StoredClause). c.lits) (get_or-set_same db (id - 1) (not_live (named db id)) no_clause within)
          ∙ ap (λ (k : ℕ). (get_or db k no_clause).lits) (sym e)
      | inr ne ↦ ap (λ (c : StoredClause). c.lits) (forgotten_same db id i ne)
    ]

-- what is live is another clause
forgotten_live : (db : List StoredClause) (id i : ℕ) → IsId db i → (clause_at (forgotten db id) i).live ≡ true → (i - 1 ≢ id - 1) × ((clause_at db i).live ≡ true)
forgotten_live db id i is live =
    let low = is.from_one in
    let high = is.within in
    elim (cases_eq (i - 1) (id - 1)) [
      | inl e ↦
          let within : id - 1 < length db = omega arith in
          absurd (false≢true (sym (ap (λ (c : StoredClause). c.live) (get_or-set_same db (id - 1) (not_live (named db id)) no_clause within))
          ∙ ap (λ (k : ℕ). (get_or (forgotten db id) k no_clause).live) (sym e)
          ∙ live))
      | inr ne ↦ (ne, sym (ap (λ (c : StoredClause). c.live) (forgotten_same db id i ne)) ∙ live)
    ]

old_id : (db : List StoredClause) (id i : ℕ) → IsId (forgotten db id) i → IsId db i
old_id db id i is = let low = is.from_one in let high = is.within in let same = length-forgotten db id in record { from_one = low; within = omega arith }

new_id : (db : List StoredClause) (id i : ℕ) → IsId db i → IsId (forgotten db id) i
new_id db id i is = let low = is.from_one in let high = is.within in let same = length-forgotten db id in record { from_one = low; within = omega arith }

pub stale_forgotten : (s s' : Clauses) (t : Trail) (id : ℕ) → IsStale s t → 0 < id → id ≢ s.false_id → s'.clauses ≡ forgotten s.clauses id → s' ≡ record s { clauses = s'.clauses } → IsStale s' t
stale_forgotten s s' t id k some other is rest = subst (λ (x : Clauses). IsStale x t) (sym (rest ∙ ap (λ (db : List StoredClause). record s { clauses = db }) is)) (record {
  vars = k.vars;
  done = k.done;
  fresh = k.fresh;
  id = λ n w. new_id s.clauses id (n / 2) (k.id n w);
  stands = λ n w. subst (λ (ls : List ℤ). In (watch_of s n) ls) (sym (forgotten_lits s.clauses id (n / 2) (k.id n w))) (k.stands n w);
  differ = k.differ;
  guarded = k.guarded;
  settled = λ none i i_is live idle.
      let i_old = old_id s.clauses id i i_is in
      let (lit, has, true_there) = k.settled none i i_old (forgotten_live s.clauses id i i_old live).1 idle in
      (lit, subst (λ (ls : List ℤ). In lit ls) (sym (forgotten_lits s.clauses id i i_old)) has, true_there);
  false_clause = λ any.
      let f = k.false_clause any in
      let low = f.is_id.from_one in
      let ne : s.false_id - 1 ≢ id - 1 = λ e. other (omega arith) in
      record {
        is_id = new_id s.clauses id s.false_id f.is_id;
        live = ap (λ (c : StoredClause). c.live) (forgotten_same s.clauses id s.false_id ne) ∙ f.live;
        is_false = λ lit i. f.is_false lit (subst (λ (ls : List ℤ). In lit ls) (forgotten_lits s.clauses id s.false_id f.is_id) i);
      };
})
