-- Watches that go back to the lists.
use Rattle.std.proofs.Common.{◌≡◌, ◌≢◌, ℕ, suc, ◌+◌, ◌-◌, ◌*◌, ◌/◌, ◌<◌, ◌≤◌, List, [], ◌∷◌, ◌++◌, length, None, refl, sym, ◌∙◌, ap, subst, inl, inr, arith, true}
use Rattle.std.specs.Prelude.{ℤ, Bool, false}
use Rattle.std.proofs.lemmas.List.{drop_all}
use Rattle.std.proofs.lemmas.Bool.{cases_eq, cases_lt, false≢true}
use Rattle.sat_base.specs.Members.{In}
use Rattle.sat_base.specs.Literals.{IsLiteral}
use Rattle.sat_base.proofs.Members.{In-append_left, In-append_right, In-append_cases}
use Rattle.clause_store.specs.Clauses.{Clauses, IsId}
use Rattle.clause_store.specs.Links.{watched_at, watch_of, next_of, tail_of, park_of}
use Rattle.trail_book.specs.declared.entry.Entry.{Entry}
use Rattle.trail_book.specs.Trail.{Trail, trues, top, keep, oldest}
use Rattle.trail_book.proofs.TrailLemmas.{keep-whole}
use Rattle.trail_book.proofs.PlaceLemmas.{oldest_skip, oldest_whole}
use Rattle.propagate.specs.Lists.{IsPair, IsApart, IsChain, last_of}
use Rattle.propagate.specs.Watches.{IsListed, IsParkedUnder, AreParked, AreHung, IsWatch, AreWatches}
use Rattle.propagate.specs.Walk.{IsNode, Appends, IsReturning}
use Rattle.propagate.proofs.ListLemmas.{AreNodes, last_in, chain_same, appended, appended_other, last_unparked, set_at, set_at-same, set_at-other}
use Rattle.propagate.proofs.LevelLemmas.{keep_push}
use Rattle.propagate.proofs.WalkLemmas.{is_watch, watched_some, node_of_last, are_nodes, stands_at}
use Rattle.propagate.proofs.MoveLemmas.{cases_literal}
use Rattle.propagate.proofs.StepLemmas.{watch_rest}
use Rattle.propagate.proofs.ParkLemmas.{watches_same, one_under}

-- ---- watches go back

-- the watch that is next to go back
pub returns_at : (s : Clauses) (t : Trail) (lit : ℤ) (id fuel : ℕ) (r : IsReturning s t lit id fuel) → 0 < id → (n : ℕ) × (ns : List ℕ) × (r.here.nodes ≡ n ∷ ns) × (n / 2 ≡ id)
returns_at s t lit id fuel r some = stands_at (next_of s) id r.here.nodes some r.here.chain

module _ (s : Clauses) (t : Trail) (lit : ℤ) (id fuel : ℕ) (r : IsReturning s t lit id (suc fuel)) (some : 0 < id) where
  abbrev x : ℕ
  x = (stands_at (next_of s) id r.here.nodes some r.here.chain).0

  abbrev xs : List ℕ
  xs = (stands_at (next_of s) id r.here.nodes some r.here.chain).1

  nodes_are : r.here.nodes ≡ x ∷ xs
  nodes_are = (stands_at (next_of s) id r.here.nodes some r.here.chain).2

  x_half : x / 2 ≡ id
  x_half = (stands_at (next_of s) id r.here.nodes some r.here.chain).3

  x_under : IsParkedUnder s r.parked lit x
  x_under = r.here.members x (subst (λ (ns : List ℕ). In x ns) (sym nodes_are) (inl refl))

  x_watch : IsWatch s x
  x_watch = r.parked_watch x x_under.is_parked

  pub release_id : IsId s.clauses id
  release_id = subst (λ (i : ℕ). IsId s.clauses i) x_half (r.watches.id x x_watch)

  pub release_watched : watched_at s id ≢ None
  release_watched = watched_some s x id x_half x_watch

  -- the last watch of a list
  pub list_tail : (y : ℤ) (is : IsLiteral s.vars y) → IsNode s y (tail_of s y) (last_of 0 (r.listed y is).nodes)
  list_tail y is = let l = r.listed y is in subst (λ (i : ℕ). IsNode s y i (last_of 0 l.nodes)) (sym l.linked.end) (node_of_last s t.entries t.done y l.nodes r.watches is l.watches.members)

  pub list_tail_watched : (y : ℤ) → IsLiteral s.vars y → tail_of s y ≢ 0 → watched_at s (tail_of s y) ≢ None
  list_tail_watched y is any = go l.nodes l.linked.end l.watches.members
    where
      l : IsListed s r.parked y
      l = r.listed y is

      go : (ns : List ℕ) → tail_of s y ≡ last_of 0 ns / 2 → ((n : ℕ) → In n ns → watch_of s n ≡ y) → watched_at s (tail_of s y) ≢ None
      go [] e all = absurd (any (omega (arith, e)))
      go (k ∷ ks) e all = watched_some s (last_of k ks) (tail_of s y) (sym e) (is_watch s y (last_of k ks) is (all (last_of k ks) (last_in k ks)))

  module _ (s₁ : Clauses) (own : ℤ) (under place goes : ℕ) (two : under < 2) (place_is : place ≡ 1 - under) (first : under ≡ 0 → watch_of s (2 * id) ≡ lit) (second : under ≡ 1 → watch_of s (2 * id) ≢ lit)
      (own_is : own ≡ watch_of s (2 * id + (1 - under))) (own_literal : IsLiteral s.vars own) (goes_is : goes ≡ next_of s (2 * id + place))
      (on : (node : ℕ) → IsNode s own (tail_of s own) node → Appends s s₁ own node (2 * id + place)) (rest : s₁ ≡ record s { nexts = s₁.nexts; heads = s₁.heads; tails = s₁.tails }) where
    x_is : x ≡ 2 * id + place
    x_is = elim (cases_eq (x - 2 * id) 0) [
      | inl e ↦
          let p : IsPair x (2 * id + 1) = record { same = omega (arith, x_half, e); differ = omega (arith, x_half, e) } in
          let here : x ≡ 2 * id = omega (arith, x_half, e) in
          let differs = r.watches.differ x (2 * id + 1) p x_watch in
          let not_lit : watch_of s (2 * id) ≢ lit = λ f. differs (ap (watch_of s) here ∙ f ∙ sym (x_under.under (2 * id + 1) p)) in
          elim (cases_eq under 0) [
            | inl zero ↦ absurd (not_lit (first zero))
            | inr ne ↦ omega (arith, here, place_is, ne, two)
          ]
      | inr ne ↦
          let here : x ≡ 2 * id + 1 = omega (arith, x_half, ne) in
          let p : IsPair x (2 * id) = record { same = omega (arith, here); differ = omega (arith, here) } in
          elim (cases_eq under 0) [
            | inl zero ↦ omega (arith, here, place_is, zero)
            | inr d ↦ absurd (second (omega (arith, d, two)) (x_under.under (2 * id) p))
          ]
    ]

    place_two : place < 2
    place_two = omega (arith, place_is)

    x_own : watch_of s x ≡ own
    x_own = ap (watch_of s) x_is ∙ ap (λ (k : ℕ). watch_of s (2 * id + k)) place_is ∙ sym own_is

    abbrev parked' : ℕ → Bool
    parked' = set_at r.parked x false

    comes : (y : IsLiteral s.vars own) → Appends s s₁ own (last_of 0 (r.listed own y).nodes) x
    comes y = subst (λ (k : ℕ). Appends s s₁ own (last_of 0 (r.listed own y).nodes) k) (sym x_is) (on (last_of 0 (r.listed own y).nodes) (list_tail own y))

    a : Appends s s₁ own (last_of 0 (r.listed own own_literal).nodes) x
    a = comes own_literal

    now_hangs : (k : ℕ) → k ≡ x → parked' k ≡ false
    now_hangs k e = set_at-same r.parked x false k e

    was_parked : (k : ℕ) → k ≢ x → parked' k ≡ r.parked k
    was_parked k ne = set_at-other r.parked x false k ne

    -- what is parked now is another one
    apart_from : (k : ℕ) → parked' k ≡ true → k ≢ x
    apart_from k p e = false≢true (sym (now_hangs k e) ∙ p)

    still_parked : (k : ℕ) → parked' k ≡ true → r.parked k ≡ true
    still_parked k p = sym (was_parked k (apart_from k p)) ∙ p

    same : (k : ℕ) → watch_of s₁ k ≡ watch_of s k
    same k = watch_rest s s₁ k rest

    watched_same : (i : ℕ) → watched_at s₁ i ≡ watched_at s i
    watched_same i = ap (λ (y : Clauses). watched_at y i) rest

    vars_are : s₁.vars ≡ s.vars
    vars_are = ap (λ (y : Clauses). y.vars) rest

    nodes_of : (y : ℤ) (is : IsLiteral s.vars y) → AreNodes (r.listed y is).nodes
    nodes_of y is = are_nodes s t.entries t.done y (r.listed y is).nodes r.watches is (r.listed y is).watches.members

    x_out : (y : ℤ) (is : IsLiteral s.vars y) → ¬ In x (r.listed y is).nodes
    x_out y is i = false≢true (sym ((r.listed y is).watches.unparked x i) ∙ x_under.is_parked)

    hangs_other : (y : ℤ) (is : IsLiteral s.vars y) (k : ℕ) → In k (r.listed y is).nodes → parked' k ≡ false
    hangs_other y is k i = was_parked k (λ e. x_out y is (subst (λ (n : ℕ). In n (r.listed y is).nodes) e i)) ∙ (r.listed y is).watches.unparked k i

    list_own : IsListed s₁ parked' own
    list_own = let l = r.listed own own_literal in record {
      nodes = l.nodes ++ x ∷ [];
      linked = appended s s₁ own (last_of 0 l.nodes) x a l.nodes refl (nodes_of own own_literal) (x_out own own_literal) l.linked;
      watches = record {
        members = λ k i. same k ∙ elim (In-append_cases k l.nodes (x ∷ []) i) [
          | inl j ↦ l.watches.members k j
          | inr (inl e) ↦ ap (watch_of s) e ∙ x_own
          | inr (inr none) ↦ absurd none
        ];
        unparked = λ k i. elim (In-append_cases k l.nodes (x ∷ []) i) [
          | inl j ↦ hangs_other own own_literal k j
          | inr (inl e) ↦ now_hangs k e
          | inr (inr none) ↦ absurd none
        ];
        complete = λ k e f. elim (cases_eq k x) [
          | inl is ↦ In-append_right k l.nodes (x ∷ []) (inl is)
          | inr ne ↦ In-append_left k l.nodes (x ∷ []) (l.watches.complete k (sym (same k) ∙ e) (sym (was_parked k ne) ∙ f))
        ];
      };
    }

    last_out : (y : ℤ) (is : IsLiteral s.vars y) → y ≢ own → ¬ In (last_of 0 (r.listed own own_literal).nodes) (r.listed y is).nodes
    last_out y is d i = go (r.listed own own_literal).nodes (r.listed own own_literal).watches.members i
      where
        go : (ms : List ℕ) → ((k : ℕ) → In k ms → watch_of s k ≡ own) → In (last_of 0 ms) (r.listed y is).nodes → ⊥
        go [] all i = let low = nodes_of y is 0 i in omega (arith, low)
        go (k ∷ ks) all i = d (sym ((r.listed y is).watches.members (last_of k ks) i) ∙ all (last_of k ks) (last_in k ks))

    list_other : (y : ℤ) → IsLiteral s.vars y → y ≢ own → IsListed s₁ parked' y
    list_other y is d = let l = r.listed y is in record {
      nodes = l.nodes;
      linked = appended_other s s₁ own (last_of 0 (r.listed own own_literal).nodes) x a y l.nodes d (nodes_of y is) (last_out y is d) (x_out y is) l.linked;
      watches = record {
        members = λ k i. same k ∙ l.watches.members k i;
        unparked = λ k i. hangs_other y is k i;
        complete = λ k e f. elim (cases_eq k x) [
          | inl e₁ ↦ absurd (d (sym e ∙ same k ∙ ap (watch_of s) e₁ ∙ x_own))
          | inr ne ↦ l.watches.complete k (sym (same k) ∙ e) (sym (was_parked k ne) ∙ f)
        ];
      };
    }

    parked_some : (k : ℕ) → r.parked k ≡ true → 0 < k / 2
    parked_some k p = (r.watches.id k (r.parked_watch k p)).from_one

    next_parked : (k : ℕ) → r.parked k ≡ true → k ≢ x → next_of s₁ k ≡ next_of s k
    next_parked k p ne =
        let low = parked_some k p in
        let more : k ≢ 0 = omega (arith, low) in
        a.nexts k more (last_unparked r.parked (r.listed own own_literal).nodes k (r.listed own own_literal).watches.unparked p low) ne

    kept_under : (y : ℤ) (k : ℕ) → k ≢ x → IsParkedUnder s r.parked y k → IsParkedUnder s₁ parked' y k
    kept_under y k ne u = record { is_parked = was_parked k ne ∙ u.is_parked; under = λ m p. same m ∙ u.under m p }

    was_under : (y : ℤ) (k : ℕ) → IsParkedUnder s₁ parked' y k → IsParkedUnder s r.parked y k
    was_under y k u = record { is_parked = still_parked k u.is_parked; under = λ m p. sym (same m) ∙ u.under m p }

    park_same : (y : ℤ) → park_of s₁ y ≡ park_of s y
    park_same y = ap (λ (k : Clauses). park_of k y) rest

    x_some : 0 < x / 2
    x_some = parked_some x x_under.is_parked

    under_else : (y : ℤ) → y ≢ lit → AreParked s r.parked y (park_of s y) → AreParked s₁ parked' y (park_of s₁ y)
    under_else y d u =
        let away : (k : ℕ) → In k u.nodes → k ≢ x = λ k i e. d (one_under s r.parked y lit x x_some (subst (λ (j : ℕ). IsParkedUnder s r.parked y j) e (u.members k i)) x_under) in
        record {
          nodes = u.nodes;
          chain = subst (λ (h : ℕ). IsChain (next_of s₁) h u.nodes) (sym (park_same y)) (chain_same (next_of s) (next_of s₁) (park_of s y) u.nodes (λ k i. next_parked k (u.members k i).is_parked (away k i)) u.chain);
          apart = u.apart;
          members = λ k i. kept_under y k (away k i) (u.members k i);
          complete = λ k v. u.complete k (was_under y k v);
        }

    apart_xs : IsApart (x ∷ xs)
    apart_xs = subst IsApart nodes_are r.here.apart

    chain_xs : IsChain (next_of s) id (x ∷ xs)
    chain_xs = subst (λ (ns : List ℕ). IsChain (next_of s) id ns) nodes_are r.here.chain

    xs_away : (k : ℕ) → In k xs → k ≢ x
    xs_away k i e = apart_xs.0 (subst (λ (j : ℕ). In j xs) e i)

    xs_under : (k : ℕ) → In k xs → IsParkedUnder s r.parked lit k
    xs_under k i = r.here.members k (subst (λ (ns : List ℕ). In k ns) (sym nodes_are) (inr i))

    abbrev here_left : AreParked s₁ parked' lit goes
    here_left = record {
      nodes = xs;
      chain = subst (λ (h : ℕ). IsChain (next_of s₁) h xs) (ap (next_of s) x_is ∙ sym goes_is) (chain_same (next_of s) (next_of s₁) (next_of s x) xs (λ k i. next_parked k (xs_under k i).is_parked (xs_away k i)) chain_xs.1);
      apart = apart_xs.1;
      members = λ k i. kept_under lit k (xs_away k i) (xs_under k i);
      complete = λ k v. elim (subst (λ (ns : List ℕ). In k ns) nodes_are (r.here.complete k (was_under lit k v))) [
        | inl e ↦ absurd (apart_from k v.is_parked e)
        | inr i ↦ i
      ];
    }

    pub released : IsReturning s₁ t lit goes fuel
    released = let long = ap length nodes_are in let enough = r.enough in record {
      literal = subst (λ (v : ℕ). IsLiteral v lit) (sym vars_are) r.literal;
      parked = parked';
      listed = λ y is'. let is = subst (λ (v : ℕ). IsLiteral v y) vars_are is' in elim (cases_literal y own) [
        | inl e ↦ subst (λ (k : ℤ). IsListed s₁ parked' k) (sym e) list_own
        | inr d ↦ list_other y is d
      ];
      under = λ y is' d. under_else y d (r.under y (subst (λ (v : ℕ). IsLiteral v y) vars_are is') d);
      here = here_left;
      taken = park_same lit ∙ r.taken;
      satisfied = λ n m p q. subst (λ (l : ℤ). In l (trues t.entries)) (sym (same m)) (r.satisfied n m (still_parked n p) q);
      parked_watch = λ n p e. r.parked_watch n (still_parked n p) (sym (watched_same (n / 2)) ∙ e);
      watches = watches_same s s₁ t.entries t.done (ap (λ (y : Clauses). y.clauses) rest) watched_same same r.watches;
      enough = omega (arith, long, enough);
    }

-- what is parked, where only the first ones of such lists differ
abbrev parked_over : (s s' : Clauses) (parked : ℕ → Bool) → s' ≡ record s { parks = s'.parks } → (y : ℤ) (k : ℕ) → AreParked s parked y k → AreParked s' parked y k
parked_over s s' parked rest y k u = record {
  nodes = u.nodes;
  chain = subst (λ (x : Clauses). IsChain (next_of x) k u.nodes) (sym rest) u.chain;
  apart = u.apart;
  members = λ n i. record { is_parked = (u.members n i).is_parked; under = λ m p. ap (λ (x : Clauses). watch_of x m) rest ∙ (u.members n i).under m p };
  complete = λ n v. u.complete n (record { is_parked = v.is_parked; under = λ m p. sym (ap (λ (x : Clauses). watch_of x m) rest) ∙ v.under m p });
}

-- only the lists differ
pub rest_of_parks : (s s' : Clauses) → s' ≡ record s { parks = s'.parks } → s' ≡ record s { nexts = s'.nexts; heads = s'.heads; tails = s'.tails; parks = s'.parks }
rest_of_parks s s' rest = subst (λ (x : Clauses). x ≡ record s { nexts = x.nexts; heads = x.heads; tails = x.tails; parks = x.parks }) (sym rest) refl

-- all that is parked under a literal is to go back
pub begin_returning : (s s' : Clauses) (t : Trail) (lit : ℤ) (fuel : ℕ) (h : AreHung s t) → IsLiteral s.vars lit → park_of s' lit ≡ 0 → ((y : ℤ) → y ≢ lit → park_of s' y ≡ park_of s y) → s' ≡ record s { parks = s'.parks }
    → ((ns : List ℕ) → IsApart ns → ((n : ℕ) → In n ns → IsId s.clauses (n / 2)) → length ns ≤ fuel) → IsReturning s' t lit (park_of s lit) fuel
begin_returning s s' t lit fuel h is none others rest fits = record {
  literal = subst (λ (x : Clauses). IsLiteral x.vars lit) (sym rest) is;
  parked = h.parked;
  listed = subst (λ (x : Clauses). (y : ℤ) → IsLiteral x.vars y → IsListed x h.parked y) (sym rest) (λ y y_is. let l = h.listed y y_is in record {
    nodes = l.nodes;
    linked = record { chain = l.linked.chain; end = l.linked.end; apart = l.linked.apart };
    watches = record { members = l.watches.members; unparked = l.watches.unparked; complete = l.watches.complete };
  });
  under = λ y y_is d. let u = h.under y (subst (λ (x : Clauses). IsLiteral x.vars y) rest y_is) in
      subst (λ (k : ℕ). AreParked s' h.parked y k) (sym (others y d)) (parked_over s s' h.parked rest y (park_of s y) u);
  here = parked_over s s' h.parked rest lit (park_of s lit) (h.under lit is);
  taken = none;
  satisfied = subst (λ (x : Clauses). (n m : ℕ) → h.parked n ≡ true → IsPair n m → In (watch_of x m) (trues t.entries)) (sym rest) h.satisfied;
  parked_watch = subst (λ (x : Clauses). (n : ℕ) → h.parked n ≡ true → IsWatch x n) (sym rest) h.parked_watch;
  watches = subst (λ (x : Clauses). AreWatches x t.entries t.done) (sym rest) (record { id = h.watches.id; live = h.watches.live; stands = h.watches.stands; differ = h.watches.differ; guarded = h.watches.guarded });
  enough = fits (h.under lit is).nodes (h.under lit is).apart (λ n i. h.watches.id n (h.parked_watch n ((h.under lit is).members n i).is_parked));
}

-- all have gone back
pub returned : (s : Clauses) (t : Trail) (lit : ℤ) (fuel : ℕ) → IsReturning s t lit 0 fuel → AreHung s t
returned s t lit fuel r = record {
  parked = r.parked;
  listed = r.listed;
  under = λ y is. elim (cases_literal y lit) [
    | inl e ↦ subst (λ (x : ℤ). AreParked s r.parked x (park_of s x)) (sym e) (subst (λ (k : ℕ). AreParked s r.parked lit k) (sym r.taken) r.here)
    | inr d ↦ r.under y is d
  ];
  satisfied = r.satisfied;
  parked_watch = r.parked_watch;
  watches = r.watches;
}

-- while there is a clause, there is a step left
pub step_left : (s : Clauses) (t : Trail) (lit : ℤ) (id fuel : ℕ) → 0 < id → IsReturning s t lit id fuel → 0 < fuel
step_left s t lit id fuel some r =
    let x = stands_at (next_of s) id r.here.nodes some r.here.chain in
    let long = ap length x.2 in
    let enough = r.enough in
    omega (arith, long, enough)

-- ---- the trail

-- none of them is older than the first
pub oldest_none : (n : ℕ) (es : List Entry) → n ≡ 0 → oldest n es ≡ []
oldest_none n es none = drop_all (length es - n) es (omega (arith, none))

-- the oldest values, where they are of no higher level, are among those up to the level
pub oldest_within : (n level : ℕ) (es : List Entry) (l : ℤ) → n ≤ length es → top (oldest n es) ≤ level → In l (trues (oldest n es)) → In l (trues (keep level es))
oldest_within n level [] l fits low i = subst (λ (xs : List Entry). In l (trues xs)) (oldest_whole [] n (omega (arith, fits))) i
oldest_within n level (e ∷ es) l fits low i = elim (cases_lt n (length (e ∷ es))) [
  | inl less ↦
      let skip = oldest_skip e es n (omega (arith, less)) in
      let same = ap top skip in
      keep_push level e es l (oldest_within n level es l (omega (arith, less)) (omega (arith, low, same)) (subst (λ (xs : List Entry). In l (trues xs)) skip i))
  | inr all ↦
      let whole = oldest_whole (e ∷ es) n (omega (arith, all, fits)) in
      let same = ap top whole in
      subst (λ (xs : List Entry). In l (trues xs)) (whole ∙ sym (keep-whole level (e ∷ es) (omega (arith, low, same)))) i
]
