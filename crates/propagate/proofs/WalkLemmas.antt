-- The walk along the list of a literal that has become false.
use Rattle.std.proofs.Common.{◌≡◌, ◌≢◌, ◌⊎◌, ℕ, suc, ◌+◌, ◌-◌, ◌*◌, ◌/◌, ◌%◌, ◌<◌, ◌≤◌, List, [], ◌∷◌, ◌++◌, length, Option, Some, None, refl, sym, ◌∙◌, ap, subst, inl, inr, arith, true}
use Rattle.std.specs.Prelude.{ℤ, neg_ℤ, pos, false}
use Rattle.std.proofs.lemmas.Bool.{cases_eq}
use Rattle.std.proofs.Math.IntN.{neg_ℤ-neg_ℤ}
use Rattle.sat_base.specs.Members.{In}
use Rattle.sat_base.specs.Literals.{IsLiteral, var_of}
use Rattle.sat_base.proofs.Members.{In-append_right, In-append_cases}
use Rattle.clause_store.specs.Clauses.{Clauses, clause_at, IsId}
use Rattle.clause_store.specs.Links.{watched_at, watch_of, next_of, head_of, literal_by}
use Rattle.trail_book.specs.declared.entry.Entry.{Entry}
use Rattle.trail_book.specs.Trail.{Trail, trues, keep, oldest, IsTrail}
use Rattle.trail_book.proofs.PlaceLemmas.{oldest_skip}
use Rattle.propagate.specs.Lists.{IsPair, IsApart, IsChain, last_of}
use Rattle.propagate.specs.Watches.{IsLinked, AreWatchesOf, IsWatch, AreWatches, IsKept}
use Rattle.propagate.specs.Walk.{IsNode, IsFalseWatch, IsWalk}
use Rattle.propagate.proofs.ListLemmas.{last_in, last_append, append_cons, AreNodes, bool_cases}
use Rattle.propagate.proofs.LevelLemmas.{oldest_in, waits_at_top}
use Rattle.propagate.proofs.KeptLemmas.{kept_assign}

pub not_zero : (vars : ℕ) (lit : ℤ) → IsLiteral vars lit → lit ≢ pos 0
not_zero vars lit is e = let low = is.not_zero in let none = ap var_of e in omega (arith, low, none)

-- a watch of a literal is a watch
pub is_watch : (s : Clauses) (lit : ℤ) (n : ℕ) → IsLiteral s.vars lit → watch_of s n ≡ lit → IsWatch s n
is_watch s lit n is w e = not_zero s.vars lit is (sym w ∙ ap (λ (p : Option (ℤ × ℤ)). literal_by p (n % 2)) e)

-- so is the other one of its clause
pub other_watch : (s : Clauses) (n m : ℕ) → IsPair n m → IsWatch s n → IsWatch s m
other_watch s n m p w e = w (ap (watched_at s) p.same ∙ e)

-- its clause is watched
pub watched_some : (s : Clauses) (n id : ℕ) → n / 2 ≡ id → IsWatch s n → watched_at s id ≢ None
watched_some s n id half w e = w (ap (watched_at s) half ∙ e)

-- which of a clause's two watches is that of the literal
pub node_is : (s : Clauses) (lit : ℤ) (id node place : ℕ) → 0 < id → IsNode s lit id node → place < 2 → (place ≡ 0 → watch_of s (2 * id) ≡ lit) → (place ≡ 1 → watch_of s (2 * id) ≢ lit) → node ≡ 2 * id + place
node_is s lit id node place some is two first second =
    let half = is.half in
    let any : id ≢ 0 = omega (arith, some) in
    elim (cases_eq (node % 2) 0) [
      | inl even ↦
          let here : node ≡ 2 * id = omega (arith, even, half) in
          elim (cases_eq place 0) [
            | inl p ↦ omega (arith, here, p)
            | inr p ↦ absurd (second (omega (arith, p, two)) (ap (watch_of s) (sym here) ∙ is.watches any))
          ]
      | inr odd ↦
          let here : node ≡ 2 * id + 1 = omega (arith, odd, half) in
          elim (cases_eq place 0) [
            | inl p ↦
                let pair : IsPair node (2 * id) = record { same = omega (arith, here); differ = omega (arith, here) } in
                absurd (is.alone any (2 * id) pair (first p))
            | inr p ↦ omega (arith, here, p, two)
          ]
    ]

-- a watch of the literal is the one in its clause
pub node_of : (s : Clauses) (es : List Entry) (done : ℕ) (lit : ℤ) (n : ℕ) → AreWatches s es done → IsLiteral s.vars lit → watch_of s n ≡ lit → IsNode s lit (n / 2) n
node_of s es done lit n ws is w = record {
  half = refl;
  none = λ e. let low = (ws.id n (is_watch s lit n is w)).from_one in absurd (omega (arith, e, low));
  watches = λ any. w;
  alone = λ any m p e. ws.differ n m p (is_watch s lit n is w) (w ∙ sym e);
}

-- and so is the last of a list, if there is one
pub node_of_last : (s : Clauses) (es : List Entry) (done : ℕ) (lit : ℤ) (ns : List ℕ) → AreWatches s es done → IsLiteral s.vars lit → ((n : ℕ) → In n ns → watch_of s n ≡ lit) → IsNode s lit (last_of 0 ns / 2) (last_of 0 ns)
node_of_last s es done lit [] ws is all = record {
  half = refl;
  none = λ e. refl;
  watches = λ any. absurd (any (omega arith));
  alone = λ any. absurd (any (omega arith));
}
node_of_last s es done lit (n ∷ ns) ws is all = node_of s es done lit (last_of n ns) ws is (all (last_of n ns) (last_in n ns))

pub are_nodes : (s : Clauses) (es : List Entry) (done : ℕ) (lit : ℤ) (ns : List ℕ) → AreWatches s es done → IsLiteral s.vars lit → ((n : ℕ) → In n ns → watch_of s n ≡ lit) → AreNodes ns
are_nodes s es done lit ns ws is all m i = (ws.id m (is_watch s lit m is (all m i))).from_one

-- ---- where the walk stands

-- the watch at which it stands, and those behind
pub stands_at : (next : ℕ → ℕ) (at : ℕ) (ahead : List ℕ) → 0 < at → IsChain next at ahead → (n : ℕ) × (rest : List ℕ) × (ahead ≡ n ∷ rest) × (n / 2 ≡ at)
stands_at next at [] some c = absurd (omega (arith, some, c))
stands_at next at (n ∷ rest) some c = (n, rest, refl, sym c.0)

module _ (s : Clauses) (t : Trail) (z : ℤ) (before id fuel : ℕ) (w : IsWalk s t z before id fuel) (some : 0 < id) where
  abbrev pub node : ℕ
  node = (stands_at (next_of s) id w.ahead some w.at_is).0

  abbrev pub rest : List ℕ
  rest = (stands_at (next_of s) id w.ahead some w.at_is).1

  pub ahead_is : w.ahead ≡ node ∷ rest
  ahead_is = (stands_at (next_of s) id w.ahead some w.at_is).2

  pub half : node / 2 ≡ id
  half = (stands_at (next_of s) id w.ahead some w.at_is).3

  pub here : In node (w.seen ++ w.ahead)
  here = In-append_right node w.seen w.ahead (subst (λ (ns : List ℕ). In node ns) (sym ahead_is) (inl refl))

  pub watches : watch_of s node ≡ z
  watches = w.watches.members node here

  pub is_node : IsNode s z id node
  is_node = subst (λ (i : ℕ). IsNode s z i node) half (node_of s t.entries t.done z node w.kept.hung.watches w.literal watches)

  pub at_id : IsId s.clauses id
  at_id = subst (λ (i : ℕ). IsId s.clauses i) half (w.kept.hung.watches.id node (is_watch s z node w.literal watches))

  pub at_live : (clause_at s.clauses id).live ≡ true
  at_live = subst (λ (i : ℕ). (clause_at s.clauses i).live ≡ true) half (w.kept.hung.watches.live node (is_watch s z node w.literal watches))

  pub at_watched : watched_at s id ≢ None
  at_watched = watched_some s node id half (is_watch s z node w.literal watches)

  pub now_false : In (neg_ℤ z) (trues t.entries)
  now_false = oldest_in (neg_ℤ z) (t.done + 1) t.entries (subst (λ (ls : List ℤ). In (neg_ℤ z) ls) (sym w.now) (inl refl))

  -- the other watch of the clause
  pub pair_of : (place : ℕ) → node ≡ 2 * id + place → place < 2 → IsPair node (2 * id + (1 - place))
  pair_of place e two = record { same = omega (arith, e, two); differ = omega (arith, e, two) }

  pub watch_pair : (place : ℕ) (other : ℤ) → node ≡ 2 * id + place → place < 2 → other ≡ watch_of s (2 * id + (1 - place)) → IsFalseWatch (trues t.entries) (clause_at s.clauses id).lits z other
  watch_pair place other e two is =
      let n = node in
      let m = 2 * id + (1 - place) in
      let p = pair_of place e two in
      let wn = is_watch s z n w.literal watches in
      let wm = other_watch s n m p wn in
      let half_m : m / 2 ≡ id = omega arith in
      record {
        stands = subst (λ (l : ℤ). In l (clause_at s.clauses id).lits) watches (subst (λ (i : ℕ). In (watch_of s n) (clause_at s.clauses i).lits) half (w.kept.hung.watches.stands n wn));
        other_stands = subst (λ (l : ℤ). In l (clause_at s.clauses id).lits) (sym is) (subst (λ (i : ℕ). In (watch_of s m) (clause_at s.clauses i).lits) half_m (w.kept.hung.watches.stands m wm));
        differ = λ f. w.kept.hung.watches.differ n m p wn (watches ∙ f ∙ is);
        is_false = now_false;
      }

-- the clause stays where it is
pub advance : (s : Clauses) (t : Trail) (z : ℤ) (before id fuel : ℕ) (w : IsWalk s t z before id (suc fuel)) (some : 0 < id)
    → ((m : ℕ) → IsPair (node s t z before id (suc fuel) w some) m → In (watch_of s m) (trues t.entries)) → IsWalk s t z id (next_of s (node s t z before id (suc fuel) w some)) fuel
advance s t z before id fuel w some other =
    let n = (stands_at (next_of s) id w.ahead some w.at_is).0 in
    let rest = (stands_at (next_of s) id w.ahead some w.at_is).1 in
    let is : w.ahead ≡ n ∷ rest = (stands_at (next_of s) id w.ahead some w.at_is).2 in
    let half : n / 2 ≡ id = (stands_at (next_of s) id w.ahead some w.at_is).3 in
    let whole : w.seen ++ w.ahead ≡ (w.seen ++ n ∷ []) ++ rest = ap (λ (ns : List ℕ). w.seen ++ ns) is ∙ sym (append_cons w.seen n rest) in
    let chain = subst (λ (ns : List ℕ). IsChain (next_of s) id ns) is w.at_is in
    let long = ap length is in
    let enough = w.enough in
    record {
      kept = w.kept;
      none = w.none;
      literal = w.literal;
      waiting = w.waiting;
      now = w.now;
      seen = w.seen ++ n ∷ [];
      ahead = rest;
      linked = subst (λ (ns : List ℕ). IsLinked s z ns) whole w.linked;
      watches = subst (λ (ns : List ℕ). AreWatchesOf s w.kept.hung.parked z ns) whole w.watches;
      before_is = sym half ∙ ap (λ (k : ℕ). k / 2) (sym (last_append 0 w.seen n []));
      at_is = chain.1;
      shielded = λ k m p i. elim (In-append_cases k w.seen (n ∷ []) i) [
        | inl old ↦ w.shielded k m p old
        | inr new ↦ elim new [
          | inl e ↦ other m (subst (λ (x : ℕ). IsPair x m) e p)
          | inr x ↦ absurd x
        ]
      ];
      enough = omega (arith, enough, long);
    }

-- a value comes, of the top level
pub walk_assign : (s : Clauses) (t t' : Trail) (z : ℤ) (before id fuel : ℕ) (lit : ℤ) (reason : ℕ) → t'.entries ≡ record { lit = lit; reason = Some reason; unit = None } ∷ t.entries → t'.vars ≡ t.vars → t'.done ≡ t.done
    → IsWalk s t z before id fuel → IsWalk s t' z before id fuel
walk_assign s t t' z before id fuel lit reason entries vars done w =
    let e : Entry = record { lit = lit; reason = Some reason; unit = None } in
    let long = ap length entries in
    let waiting = w.waiting in
    record {
      kept = kept_assign s t t' 0 lit reason entries vars done w.kept;
      none = w.none;
      literal = w.literal;
      waiting = omega (arith, long, waiting, done);
      now = rw (entries, done) (ap trues (oldest_skip e t.entries (t.done + 1) (omega (arith, waiting))) ∙ w.now ∙ ap (λ (xs : List Entry). neg_ℤ z ∷ trues xs) (sym (oldest_skip e t.entries t.done (omega (arith, waiting)))));
      seen = w.seen;
      ahead = w.ahead;
      linked = w.linked;
      watches = w.watches;
      before_is = w.before_is;
      at_is = w.at_is;
      shielded = λ n m p i. subst (λ (xs : List Entry). In (watch_of s m) (trues xs)) (sym entries) (inr (w.shielded n m p i));
      enough = w.enough;
    }

-- the walk begins
pub begin_walk : (s : Clauses) (t : Trail) (z : ℤ) (fuel : ℕ) → IsKept s t → s.false_id ≡ 0 → (is : IsLiteral s.vars z) → t.done < length t.entries → trues (oldest (t.done + 1) t.entries) ≡ neg_ℤ z ∷ trues (oldest t.done t.entries)
    → ((ns : List ℕ) → AreNodes ns → IsApart ns → ((n : ℕ) → In n ns → IsId s.clauses (n / 2)) → length ns ≤ fuel) → IsWalk s t z 0 (head_of s z) fuel
begin_walk s t z fuel k none is waiting now fits =
    let l = k.hung.listed z is in
    record {
      kept = k;
      none = none;
      literal = is;
      waiting = waiting;
      now = now;
      seen = [];
      ahead = l.nodes;
      linked = l.linked;
      watches = l.watches;
      before_is = refl;
      at_is = l.linked.chain;
      shielded = λ n m p i. absurd i;
      enough = fits l.nodes (are_nodes s t.entries t.done z l.nodes k.hung.watches is l.watches.members) l.linked.apart (λ n i. k.hung.watches.id n (is_watch s z n is (l.watches.members n i)));
    }

-- while there is a clause, there is a step left
pub some_left : (s : Clauses) (t : Trail) (z : ℤ) (before id fuel : ℕ) → 0 < id → IsWalk s t z before id fuel → 0 < fuel
some_left s t z before id fuel some w =
    let x = stands_at (next_of s) id w.ahead some w.at_is in
    let long = ap length x.2 in
    let enough = w.enough in
    omega (arith, long, enough)

no_more : (s : Clauses) (t : Trail) (z : ℤ) (before fuel : ℕ) (w : IsWalk s t z before 0 fuel) → (n : ℕ) → watch_of s n ≡ z → w.kept.hung.parked n ≡ false → In n w.seen
no_more s t z before fuel w n is hangs = at w.ahead w.at_is w.watches
  where
    at : (ahead : List ℕ) → IsChain (next_of s) 0 ahead → AreWatchesOf s w.kept.hung.parked z (w.seen ++ ahead) → In n w.seen
    at [] c all = elim (In-append_cases n w.seen [] (all.complete n is hangs)) [ inl i ↦ i | inr i ↦ absurd i ]
    at (m ∷ ms) c all =
        let w_m = all.members m (In-append_right m w.seen (m ∷ ms) (inl refl)) in
        let low = (w.kept.hung.watches.id m (is_watch s z m w.literal w_m)).from_one in
        absurd (omega (arith, c.0, low))

-- the other watch of a clause that watches the literal is true: it was seen, or the watch is parked under it
satisfied_at : (s : Clauses) (t : Trail) (z : ℤ) (before fuel : ℕ) (w : IsWalk s t z before 0 fuel) (n m : ℕ) → IsPair n m → watch_of s n ≡ z → In (watch_of s m) (trues t.entries)
satisfied_at s t z before fuel w n m p is = elim (bool_cases (w.kept.hung.parked n)) [
  | inl parked ↦ w.kept.hung.satisfied n m parked p
  | inr hangs ↦ w.shielded n m p (no_more s t z before fuel w n is hangs)
]

-- at its end the literal has been propagated
pub propagated : (s : Clauses) (t : Trail) (z : ℤ) (before fuel : ℕ) → IsTrail t.vars t.entries → IsWalk s t z before 0 fuel → IsKept s (record t { done = t.done + 1 })
propagated s t z before fuel trail w =
    let k = w.kept in
    let waiting = w.waiting in
    record {
      vars = k.vars;
      done = omega (arith, waiting);
      fresh = λ level below. let old = k.fresh level below in omega (arith, old);
      hung = record {
        parked = k.hung.parked;
        listed = k.hung.listed;
        under = k.hung.under;
        satisfied = k.hung.satisfied;
        parked_watch = k.hung.parked_watch;
        watches = record {
          id = k.hung.watches.id;
          live = k.hung.watches.live;
          stands = k.hung.watches.stands;
          differ = k.hung.watches.differ;
          guarded = λ n m p wn was level i. elim (in_head (neg_ℤ (watch_of s n)) (trues (oldest t.done t.entries)) (neg_ℤ z) (trues (oldest (t.done + 1) t.entries)) w.now was) [
            | inl new ↦
                let same : watch_of s n ≡ z = sym (neg_ℤ-neg_ℤ (watch_of s n)) ∙ ap neg_ℤ new ∙ neg_ℤ-neg_ℤ z in
                let all = waits_at_top t.vars t.done t.entries (neg_ℤ z) trail w.now k.fresh level (subst (λ (l : ℤ). In l (trues (keep level t.entries))) new i) in
                subst (λ (xs : List Entry). In (watch_of s m) (trues xs)) (sym all) (satisfied_at s t z before fuel w n m p same)
            | inr old ↦ k.hung.watches.guarded n m p wn old level i
          ];
        };
      };
      settled = k.settled;
      false_clause = k.false_clause;
    }
  where
    in_head : (l : ℤ) (low : List ℤ) (m : ℤ) (ls : List ℤ) → ls ≡ m ∷ low → In l ls → (l ≡ m) ⊎ In l low
    in_head l low m ls e i = subst (λ (ks : List ℤ). In l ks) e i
