-- A watch that is parked, and watches that go back to the lists.
use Rattle.std.proofs.Common.{◌≡◌, ◌≢◌, ℕ, suc, ◌+◌, ◌-◌, ◌*◌, ◌/◌, ◌<◌, List, [], ◌∷◌, ◌++◌, length, refl, sym, ◌∙◌, ap, subst, inl, inr, arith, true}
use Rattle.std.specs.Prelude.{ℤ, Bool, false}
use Rattle.std.proofs.lemmas.Bool.{cases_eq, false≢true}
use Rattle.sat_base.specs.Members.{In}
use Rattle.sat_base.specs.Literals.{IsLiteral}
use Rattle.sat_base.specs.Database.{StoredClause}
use Rattle.sat_base.proofs.Members.{In-append_left, In-append_right}
use Rattle.clause_store.specs.Clauses.{Clauses, clause_at, IsId}
use Rattle.clause_store.specs.Links.{watched_at, watch_of, next_of, head_of, park_of}
use Rattle.trail_book.specs.declared.entry.Entry.{Entry}
use Rattle.trail_book.specs.Trail.{Trail, trues}
use Rattle.propagate.specs.Lists.{IsPair, IsChain, last_of}
use Rattle.propagate.specs.Watches.{IsLinked, AreWatchesOf, IsListed, IsParkedUnder, AreParked, IsWatch, AreWatches, IsSettled, IsKept}
use Rattle.propagate.specs.Walk.{IsNode, Unlinks, Parks, IsWalk}
use Rattle.propagate.proofs.ListLemmas.{AreNodes, last_in, last_before, in_with, in_without, apart_here, chain_same, chain_behind, unlinked, unlinked_other, parks_other, last_unparked, set_at, set_at-same, set_at-other}
use Rattle.propagate.proofs.WalkLemmas.{is_watch, are_nodes, stands_at}
use Rattle.propagate.proofs.MoveLemmas.{cases_literal}
use Rattle.propagate.proofs.StepLemmas.{watch_rest, mate_is, node_at, walk_before}

-- the watches are what they were where clauses and watched literals are
pub watches_same : (s s' : Clauses) (es : List Entry) (done : ℕ) → s'.clauses ≡ s.clauses → ((i : ℕ) → watched_at s' i ≡ watched_at s i) → ((n : ℕ) → watch_of s' n ≡ watch_of s n) → AreWatches s es done → AreWatches s' es done
watches_same s s' es done clauses watched same ws = record {
  id = λ n w. subst (λ (db : List StoredClause). IsId db (n / 2)) (sym clauses) (ws.id n (λ e. w (watched (n / 2) ∙ e)));
  live = λ n w. subst (λ (db : List StoredClause). (clause_at db (n / 2)).live ≡ true) (sym clauses) (ws.live n (λ e. w (watched (n / 2) ∙ e)));
  stands = λ n w. rw (same n, clauses) (ws.stands n (λ e. w (watched (n / 2) ∙ e)));
  differ = λ n m p w e. ws.differ n m p (λ e. w (watched (n / 2) ∙ e)) (sym (same n) ∙ e ∙ same m);
  guarded = λ n m p w. rw (same n, same m) (ws.guarded n m p (λ e. w (watched (n / 2) ∙ e)));
}

-- the other watch of a clause
pub mate : ℕ → ℕ
mate n = 4 * (n / 2) + 1 - n

pub mate_pair : (n : ℕ) → 0 < n / 2 → IsPair n (mate n)
unfolding mate
mate_pair n some = record { same = omega (arith, some); differ = omega (arith, some) }

-- a watch is parked under one literal
pub one_under : (s : Clauses) (parked : ℕ → Bool) (x y : ℤ) (n : ℕ) → 0 < n / 2 → IsParkedUnder s parked x n → IsParkedUnder s parked y n → x ≡ y
one_under s parked x y n some p q = sym (p.under (mate n) (mate_pair n some)) ∙ q.under (mate n) (mate_pair n some)

-- ---- one watch is parked

module _ (s s₁ s₂ : Clauses) (t : Trail) (z other : ℤ) (before id fuel place goes : ℕ) (w : IsWalk s t z before id (suc fuel)) (some : 0 < id)
    (two : place < 2) (first : place ≡ 0 → watch_of s (2 * id) ≡ z) (second : place ≡ 1 → watch_of s (2 * id) ≢ z) (other_is : other ≡ watch_of s (2 * id + (1 - place)))
    (on : In other (trues t.entries)) (other_literal : IsLiteral s.vars other) (goes_is : goes ≡ next_of s (2 * id + place))
    (un : (node : ℕ) → IsNode s z before node → Unlinks s s₁ z node goes) (un_rest : s₁ ≡ record s { nexts = s₁.nexts; heads = s₁.heads; tails = s₁.tails })
    (pk : Parks s₁ s₂ other (2 * id + place)) (pk_rest : s₂ ≡ record s₁ { nexts = s₂.nexts; parks = s₂.parks }) where
  abbrev n : ℕ
  n = 2 * id + place

  abbrev rest : List ℕ
  rest = (stands_at (next_of s) id w.ahead some w.at_is).1

  abbrev parked : ℕ → Bool
  parked = w.kept.hung.parked

  abbrev parked' : ℕ → Bool
  parked' = set_at parked n true

  at : (stands_at (next_of s) id w.ahead some w.at_is).0 ≡ n
  at = node_at s t z before id fuel w some place other two first second other_is

  whole : w.seen ++ w.ahead ≡ w.seen ++ n ∷ rest
  whole = ap (λ (ns : List ℕ). w.seen ++ ns) ((stands_at (next_of s) id w.ahead some w.at_is).2 ∙ ap (λ (k : ℕ). k ∷ rest) at)

  linked : IsLinked s z (w.seen ++ n ∷ rest)
  linked = subst (λ (ns : List ℕ). IsLinked s z ns) whole w.linked

  all : AreWatchesOf s parked z (w.seen ++ n ∷ rest)
  all = subst (λ (ns : List ℕ). AreWatchesOf s parked z ns) whole w.watches

  half : n / 2 ≡ id
  half = omega (arith, two)

  here : watch_of s n ≡ z
  here = all.members n (In-append_right n w.seen (n ∷ rest) (inl refl))

  hangs : parked n ≡ false
  hangs = all.unparked n (In-append_right n w.seen (n ∷ rest) (inl refl))

  leaves : Unlinks s s₁ z (last_of 0 w.seen) (next_of s n)
  leaves = subst (λ (g : ℕ). Unlinks s s₁ z (last_of 0 w.seen) g) goes_is (un (last_of 0 w.seen) (walk_before s t z before id (suc fuel) w))

  ws : AreWatches s t.entries t.done
  ws = w.kept.hung.watches

  nodes_z : AreNodes (w.seen ++ n ∷ rest)
  nodes_z = are_nodes s t.entries t.done z (w.seen ++ n ∷ rest) ws w.literal all.members

  members_without : (k : ℕ) → In k (w.seen ++ rest) → watch_of s k ≡ z
  members_without k i = all.members k (in_with k n w.seen rest i)

  out : ¬ In n (w.seen ++ rest)
  out = apart_here n w.seen rest linked.apart

  not_n : (k : ℕ) → In k (w.seen ++ rest) → k ≢ n
  not_n k i e = out (subst (λ (x : ℕ). In x (w.seen ++ rest)) e i)

  watched_same : (i : ℕ) → watched_at s₂ i ≡ watched_at s i
  watched_same i = ap (λ (x : Clauses). watched_at x i) pk_rest ∙ ap (λ (x : Clauses). watched_at x i) un_rest

  watch_same : (k : ℕ) → watch_of s₂ k ≡ watch_of s k
  watch_same k = ap (λ (x : Clauses). watch_of x k) pk_rest ∙ watch_rest s s₁ k un_rest

  vars_are : s₂.vars ≡ s.vars
  vars_are = ap (λ (x : Clauses). x.vars) pk_rest ∙ ap (λ (x : Clauses). x.vars) un_rest

  clauses_are : s₂.clauses ≡ s.clauses
  clauses_are = ap (λ (x : Clauses). x.clauses) pk_rest ∙ ap (λ (x : Clauses). x.clauses) un_rest

  false_id_is : s₂.false_id ≡ s.false_id
  false_id_is = ap (λ (x : Clauses). x.false_id) pk_rest ∙ ap (λ (x : Clauses). x.false_id) un_rest

  -- the list that it leaves
  linked_left : IsLinked s₂ z (w.seen ++ rest)
  linked_left = parks_other s₁ s₂ other n pk pk_rest z (w.seen ++ rest) out (unlinked s s₁ z (last_of 0 w.seen) (next_of s n) leaves w.seen n rest refl refl nodes_z linked)

  now_parked : (k : ℕ) → k ≡ n → parked' k ≡ true
  now_parked k e = set_at-same parked n true k e

  was_parked : (k : ℕ) → k ≢ n → parked' k ≡ parked k
  was_parked k ne = set_at-other parked n true k ne

  -- what does not hang now is parked, so it is another one
  apart_from : (k : ℕ) → parked' k ≡ false → k ≢ n
  apart_from k f e = false≢true (sym f ∙ now_parked k e)

  watches_left : AreWatchesOf s₂ parked' z (w.seen ++ rest)
  watches_left = record {
    members = λ k i. watch_same k ∙ members_without k i;
    unparked = λ k i. was_parked k (not_n k i) ∙ all.unparked k (in_with k n w.seen rest i);
    complete = λ k e f. let ne = apart_from k f in in_without k n w.seen rest ne (all.complete k (sym (watch_same k) ∙ e) (sym (was_parked k ne) ∙ f));
  }

  seen_out : (y : ℤ) (ns : List ℕ) → IsLiteral s.vars y → y ≢ z → ((k : ℕ) → In k ns → watch_of s k ≡ y) → ¬ In (last_of 0 w.seen) ns
  seen_out y ns is d e i = go w.seen (λ k j. all.members k (In-append_left k w.seen (n ∷ rest) j)) i
    where
      go : (ms : List ℕ) → ((k : ℕ) → In k ms → watch_of s k ≡ z) → In (last_of 0 ms) ns → ⊥
      go [] all_z i = let low = (ws.id 0 (is_watch s y 0 is (e 0 i))).from_one in omega (arith, low)
      go (x ∷ xs) all_z i = d (sym (e (last_of x xs) i) ∙ all_z (last_of x xs) (last_in x xs))

  list_other : (y : ℤ) → IsLiteral s.vars y → y ≢ z → IsListed s₂ parked' y
  list_other y is d =
      let l = w.kept.hung.listed y is in
      let nodes = are_nodes s t.entries t.done y l.nodes ws is l.watches.members in
      let away : ¬ In n l.nodes = λ i. d (sym (l.watches.members n i) ∙ here) in
      record {
        nodes = l.nodes;
        linked = parks_other s₁ s₂ other n pk pk_rest y l.nodes away (unlinked_other s s₁ z (last_of 0 w.seen) (next_of s n) leaves y l.nodes d nodes (seen_out y l.nodes is d l.watches.members) l.linked);
        watches = record {
          members = λ k i. watch_same k ∙ l.watches.members k i;
          unparked = λ k i. was_parked k (λ e. away (subst (λ (x : ℕ). In x l.nodes) e i)) ∙ l.watches.unparked k i;
          complete = λ k e f. let ne = apart_from k f in l.watches.complete k (sym (watch_same k) ∙ e) (sym (was_parked k ne) ∙ f);
        };
      }

  parked_some : (k : ℕ) → parked k ≡ true → 0 < k / 2
  parked_some k p = (ws.id k (w.kept.hung.parked_watch k p)).from_one

  parked_not_n : (k : ℕ) → parked k ≡ true → k ≢ n
  parked_not_n k p e = false≢true (sym hangs ∙ ap parked (sym e) ∙ p)

  next_parked : (k : ℕ) → parked k ≡ true → next_of s₂ k ≡ next_of s k
  next_parked k p =
      let low = parked_some k p in
      let more : k ≢ 0 = omega (arith, low) in
      pk.nexts k (parked_not_n k p) ∙ leaves.nexts k more (last_unparked parked w.seen k (λ j i. all.unparked j (In-append_left j w.seen (n ∷ rest) i)) p low)

  mate_other : (m : ℕ) → IsPair n m → watch_of s m ≡ other
  mate_other m p = mate_is s t z before id fuel w some place other two first second other_is m (subst (λ (x : ℕ). IsPair x m) (sym at) p)

  park_was : (y : ℤ) → park_of s₁ y ≡ park_of s y
  park_was y = ap (λ (x : Clauses). park_of x y) un_rest

  kept_under : (y : ℤ) (k : ℕ) → IsParkedUnder s parked y k → IsParkedUnder s₂ parked' y k
  kept_under y k u = record { is_parked = was_parked k (parked_not_n k u.is_parked) ∙ u.is_parked; under = λ m p. watch_same m ∙ u.under m p }

  was_under : (y : ℤ) (k : ℕ) → k ≢ n → IsParkedUnder s₂ parked' y k → IsParkedUnder s parked y k
  was_under y k ne u = record { is_parked = sym (was_parked k ne) ∙ u.is_parked; under = λ m p. sym (watch_same m) ∙ u.under m p }

  half_some : 0 < n / 2
  half_some = omega (arith, half, some)

  -- what is parked under the literal, with it
  under_other : AreParked s parked other (park_of s other) → AreParked s₂ parked' other (park_of s₂ other)
  under_other u = record {
    nodes = n ∷ u.nodes;
    chain = (pk.first, subst (λ (h : ℕ). IsChain (next_of s₂) h u.nodes) (sym (pk.next ∙ park_was other)) (chain_same (next_of s) (next_of s₂) (park_of s other) u.nodes (λ k i. next_parked k (u.members k i).is_parked) u.chain));
    apart = (λ i. parked_not_n n (u.members n i).is_parked refl, u.apart);
    members = λ k i. elim i [
      | inl e ↦ record { is_parked = now_parked k e; under = λ m p. watch_same m ∙ mate_other m (subst (λ (x : ℕ). IsPair x m) e p) }
      | inr j ↦ kept_under other k (u.members k j)
    ];
    complete = λ k v. elim (cases_eq k n) [
      | inl e ↦ inl e
      | inr ne ↦ inr (u.complete k (was_under other k ne v))
    ];
  }

  under_else : (y : ℤ) → y ≢ other → AreParked s parked y (park_of s y) → AreParked s₂ parked' y (park_of s₂ y)
  under_else y d u = record {
    nodes = u.nodes;
    chain = subst (λ (h : ℕ). IsChain (next_of s₂) h u.nodes) (sym (pk.parks y d ∙ park_was y)) (chain_same (next_of s) (next_of s₂) (park_of s y) u.nodes (λ k i. next_parked k (u.members k i).is_parked) u.chain);
    apart = u.apart;
    members = λ k i. kept_under y k (u.members k i);
    complete = λ k v. elim (cases_eq k n) [
      | inl e ↦ absurd (d (sym (sym (watch_same (mate n)) ∙ (subst (λ (x : ℕ). IsParkedUnder s₂ parked' y x) e v).under (mate n) (mate_pair n half_some)) ∙ mate_other (mate n) (mate_pair n half_some)))
      | inr ne ↦ u.complete k (was_under y k ne v)
    ];
  }

  n_watch : IsWatch s n
  n_watch = is_watch s z n w.literal here

  abbrev parked_kept : IsKept s₂ t
  parked_kept = record {
    vars = vars_are ∙ w.kept.vars;
    done = w.kept.done;
    fresh = w.kept.fresh;
    hung = record {
      parked = set_at w.kept.hung.parked (2 * id + place) true;
      listed = λ y is'. let is = subst (λ (v : ℕ). IsLiteral v y) vars_are is' in elim (cases_literal y z) [
        | inl e ↦ subst (λ (x : ℤ). IsListed s₂ parked' x) (sym e) (record { nodes = w.seen ++ rest; linked = linked_left; watches = watches_left })
        | inr d ↦ list_other y is d
      ];
      under = λ y is'. let is = subst (λ (v : ℕ). IsLiteral v y) vars_are is' in elim (cases_literal y other) [
        | inl e ↦ subst (λ (x : ℤ). AreParked s₂ parked' x (park_of s₂ x)) (sym e) (under_other (w.kept.hung.under other other_literal))
        | inr d ↦ under_else y d (w.kept.hung.under y is)
      ];
      satisfied = λ a b p q. subst (λ (l : ℤ). In l (trues t.entries)) (sym (watch_same b)) (elim (cases_eq a n) [
        | inl e ↦ subst (λ (l : ℤ). In l (trues t.entries)) (sym (mate_other b (subst (λ (x : ℕ). IsPair x b) e q))) on
        | inr ne ↦ w.kept.hung.satisfied a b (sym (was_parked a ne) ∙ p) q
      ]);
      parked_watch = λ a p e. elim (cases_eq a n) [
        | inl same ↦ n_watch (ap (λ (x : ℕ). watched_at s (x / 2)) (sym same) ∙ sym (watched_same (a / 2)) ∙ e)
        | inr ne ↦ w.kept.hung.parked_watch a (sym (was_parked a ne) ∙ p) (sym (watched_same (a / 2)) ∙ e)
      ];
      watches = watches_same s s₂ t.entries t.done clauses_are watched_same watch_same ws;
    };
    settled = λ none i ne is live idle. subst (λ (db : List StoredClause). IsSettled db t.entries i) (sym clauses_are)
        (w.kept.settled w.none i ne (subst (λ (db : List StoredClause). IsId db i) clauses_are is) (ap (λ (db : List StoredClause). (clause_at db i).live) (sym clauses_are) ∙ live) (sym (watched_same i) ∙ idle));
    false_clause = λ any. absurd (any (false_id_is ∙ w.none));
  }

  chain_left : IsChain (next_of s₂) (next_of s n) rest
  chain_left = chain_same (next_of s) (next_of s₂) (next_of s n) rest
      (λ k i.
      let low = nodes_z k (In-append_right k w.seen (n ∷ rest) (inr i)) in
      let more : k ≢ 0 = omega (arith, low) in
      pk.nexts k (not_n k (In-append_right k w.seen rest i)) ∙ leaves.nexts k more (last_before w.seen n rest linked.apart nodes_z k i))
      (chain_behind (next_of s) (head_of s z) w.seen n rest linked.chain)

  pub parked_walk : IsWalk s₂ t z before goes fuel
  parked_walk =
      let long = ap length (stands_at (next_of s) id w.ahead some w.at_is).2 in
      let enough = w.enough in
      record {
        kept = parked_kept;
        none = false_id_is ∙ w.none;
        literal = subst (λ (v : ℕ). IsLiteral v z) (sym vars_are) w.literal;
        waiting = w.waiting;
        now = w.now;
        seen = w.seen;
        ahead = rest;
        linked = linked_left;
        watches = watches_left;
        before_is = w.before_is;
        at_is = subst (λ (g : ℕ). IsChain (next_of s₂) g rest) (sym goes_is) chain_left;
        shielded = λ a b p i. subst (λ (l : ℤ). In l (trues t.entries)) (sym (watch_same b)) (w.shielded a b p i);
        enough = omega (arith, enough, long);
      }
