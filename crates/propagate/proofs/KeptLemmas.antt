-- What is kept of the watches where the trail grows or goes back, and where a clause comes.
use Rattle.std.proofs.Common.{◌≡◌, ◌≢◌, ◌⊎◌, ℕ, ◌-◌, ◌/◌, ◌%◌, ◌<◌, ◌≤◌, List, [], ◌∷◌, ◌++◌, length, map, min, Option, Some, None, refl, sym, ◌∙◌, ap, subst, inl, inr, arith, get_or}
use Rattle.std.specs.Prelude.{ℤ, neg_ℤ, Bool, true}
use Rattle.std.proofs.lemmas.Bool.{cases_lt, cases_eq}
use Rattle.std.proofs.lemmas.List.{get_or_append_left, get_or_push, length_push}
use Rattle.sat_base.specs.Members.{In}
use Rattle.sat_base.specs.Literals.{IsLiteral}
use Rattle.sat_base.specs.Database.{StoredClause}
use Rattle.clause_store.specs.Clauses.{Clauses, clause_at, no_clause, IsId}
use Rattle.clause_store.specs.Links.{watched_at, watch_of, next_of, head_of, tail_of, park_of, row_of, literal_by, KeepsLinks}
use Rattle.trail_book.specs.declared.entry.Entry.{Entry}
use Rattle.trail_book.specs.Trail.{Trail, trues, top, keep, oldest, with_unit, IsTrail}
use Rattle.trail_book.proofs.TrailLemmas.{keep-whole, keep-skip, top-keep, trail_vars, trues-with_unit, top-with_unit, length-with_unit, keep-with_unit, oldest-with_unit}
use Rattle.trail_book.proofs.PlaceLemmas.{oldest_skip}
use Rattle.propagate.specs.Lists.{IsPair, IsChain}
use Rattle.propagate.specs.Watches.{IsListed, IsParkedUnder, AreParked, AreHung, AreWatches, IsGuarded, IsWatch, IsSettled, IsFalseAtRoot, IsKeptBut, IsKept}
use Rattle.propagate.proofs.ListLemmas.{chain_same}
use Rattle.propagate.proofs.LevelLemmas.{oldest_more, oldest_in, keep_shorter, oldest_keep, keep_lower, keep_higher, keep_push, keep_pop}

-- the same clauses and lists, over another trail, on which what is parked has what it is parked under still
abbrev over : (s : Clauses) (t t' : Trail) (but vars done : ℕ) (es : List Entry) → t' ≡ record t' { vars = vars; entries = es; done = done } → vars ≡ t.vars → done ≤ length es
    → ((level : ℕ) → level < top es → length (keep level es) ≤ done) → ((a b : ℤ) → IsGuarded t.entries t.done a b → IsGuarded es done a b) → ((lit : ℤ) → In lit (trues (keep 0 t.entries)) → In lit (trues (keep 0 es)))
    → (k : IsKeptBut s t but) → ((n m : ℕ) → k.hung.parked n ≡ true → IsPair n m → In (watch_of s m) (trues t.entries) → In (watch_of s m) (trues es)) → IsKeptBut s t' but
over s t t' but vars done es is same fits fresh guard root k still = record {
  vars = k.vars ∙ sym same ∙ sym (ap (λ (x : Trail). x.vars) is);
  done = subst (λ (x : Trail). x.done ≤ length x.entries) (sym is) fits;
  fresh = subst (λ (x : Trail). (level : ℕ) → level < top x.entries → length (keep level x.entries) ≤ x.done) (sym is) fresh;
  hung = record {
    parked = k.hung.parked;
    listed = k.hung.listed;
    under = k.hung.under;
    satisfied = subst (λ (x : Trail). (n m : ℕ) → k.hung.parked n ≡ true → IsPair n m → In (watch_of s m) (trues x.entries)) (sym is) (λ n m p q. still n m p q (k.hung.satisfied n m p q));
    parked_watch = k.hung.parked_watch;
    watches = subst (λ (x : Trail). AreWatches s x.entries x.done) (sym is) (record {
      id = k.hung.watches.id;
      live = k.hung.watches.live;
      stands = k.hung.watches.stands;
      differ = k.hung.watches.differ;
      guarded = λ n m p w. guard (watch_of s n) (watch_of s m) (k.hung.watches.guarded n m p w);
    });
  };
  settled = λ none id ne live_id live idle. subst (λ (x : Trail). IsSettled s.clauses x.entries id) (sym is) (let x = k.settled none id ne live_id live idle in (x.0, x.1, root x.0 x.2));
  false_clause = λ some. subst (λ (x : Trail). IsFalseAtRoot s.clauses x.entries s.false_id) (sym is) (let f = k.false_clause some in record { is_id = f.is_id; live = f.live; is_false = λ lit i. root (neg_ℤ lit) (f.is_false lit i) });
}

pub trail_is : (t : Trail) (vars : ℕ) (es : List Entry) (done : ℕ) → t.vars ≡ vars → t.entries ≡ es → t.done ≡ done → t ≡ record t { vars = vars; entries = es; done = done }
trail_is t vars es done e f g = rw (sym e, sym f, sym g) refl

-- ---- the order of decisions changes

pub kept_same : (s : Clauses) (t t' : Trail) (but : ℕ) → t'.entries ≡ t.entries → t'.vars ≡ t.vars → t'.done ≡ t.done → IsKeptBut s t but → IsKeptBut s t' but
kept_same s t t' but entries vars done k =
    over s t t' but t.vars t.done t.entries (trail_is t' t.vars t.entries t.done vars entries done) refl k.done k.fresh (λ a b g. g) (λ lit i. i) k (λ n m p q i. i)

-- ---- one value more

pub guard_push : (e : Entry) (es : List Entry) (done : ℕ) (a b : ℤ) → done ≤ length es → IsGuarded es done a b → IsGuarded (e ∷ es) done a b
guard_push e es done a b fits g was level i =
    let early = subst (λ (xs : List Entry). In (neg_ℤ a) (trues xs)) (oldest_skip e es done fits) was in
    keep_push level e es b (g early level (keep_pop level e es (neg_ℤ a) (oldest_in (neg_ℤ a) done es early) i))

abbrev pushed : (s : Clauses) (t t' : Trail) (but : ℕ) (e : Entry) → t' ≡ record t' { vars = t.vars; entries = e ∷ t.entries; done = t.done }
    → ((level : ℕ) → level < top (e ∷ t.entries) → length (keep level (e ∷ t.entries)) ≤ t.done) → IsKeptBut s t but → IsKeptBut s t' but
pushed s t t' but e is fresh k =
    over s t t' but t.vars t.done (e ∷ t.entries) is refl (let fits = k.done in omega (arith, fits)) fresh (λ a b g. guard_push e t.entries t.done a b k.done g) (λ lit i. keep_push 0 e t.entries lit i) k (λ n m p q i. inr i)

abbrev pub kept_assign : (s : Clauses) (t t' : Trail) (but : ℕ) (lit : ℤ) (id : ℕ) → t'.entries ≡ record { lit = lit; reason = Some id; unit = None } ∷ t.entries → t'.vars ≡ t.vars → t'.done ≡ t.done
    → IsKeptBut s t but → IsKeptBut s t' but
kept_assign s t t' but lit id entries vars done k =
    pushed s t t' but (record { lit = lit; reason = Some id; unit = None }) (trail_is t' t.vars (record { lit = lit; reason = Some id; unit = None } ∷ t.entries) t.done vars entries done)
    (λ level below. let same = ap length (keep-skip level (record { lit = lit; reason = Some id; unit = None }) t.entries below) in let old = k.fresh level below in omega (arith, same, old)) k

pub kept_decide : (s : Clauses) (t t' : Trail) (but : ℕ) (lit : ℤ) → t'.entries ≡ record { lit = lit; reason = None; unit = None } ∷ t.entries → t'.vars ≡ t.vars → t'.done ≡ t.done → t.done ≡ length t.entries
    → IsKeptBut s t but → IsKeptBut s t' but
kept_decide s t t' but lit entries vars done all k =
    let e : Entry = record { lit = lit; reason = None; unit = None } in
    pushed s t t' but e (trail_is t' t.vars (e ∷ t.entries) t.done vars entries done)
    (λ level below. let same = ap length (keep-skip level e t.entries below) in let shorter = keep_shorter level t.entries in omega (arith, same, shorter, all)) k

-- ---- a return to a level

guard_back : (level : ℕ) (es : List Entry) (done : ℕ) (a b : ℤ) → IsGuarded es done a b → IsGuarded (keep level es) (min done (length (keep level es))) a b
guard_back level es done a b g was k i =
    let n = min done (length (keep level es)) in
    let few : n ≤ length (keep level es) = omega arith in
    let fewer : n ≤ done = omega arith in
    let early = oldest_more (neg_ℤ a) n done es fewer (subst (λ (xs : List Entry). In (neg_ℤ a) (trues xs)) (oldest_keep n level es few) was) in
    elim (cases_lt level k) [
      | inl above ↦
          let same = keep_higher k level es (omega (arith, above)) in
          subst (λ (xs : List Entry). In b (trues xs)) (sym same) (g early level (subst (λ (xs : List Entry). In (neg_ℤ a) (trues xs)) same i))
      | inr within ↦
          let same = keep_lower k level es (omega (arith, within)) in
          subst (λ (xs : List Entry). In b (trues xs)) (sym same) (g early k (subst (λ (xs : List Entry). In (neg_ℤ a) (trues xs)) same i))
    ]

fresh_back : (level : ℕ) (es : List Entry) (done : ℕ) → ((k : ℕ) → k < top es → length (keep k es) ≤ done)
    → (k : ℕ) → k < top (keep level es) → length (keep k (keep level es)) ≤ min done (length (keep level es))
fresh_back level es done fresh k below =
    let within = top-keep level es in
    let same = ap length (keep_lower k level es (omega (arith, below, within))) in
    let shorter = keep_shorter k (keep level es) in
    elim (cases_lt k (top es)) [
      | inl low ↦ let old = fresh k low in omega (arith, same, shorter, old)
      | inr high ↦
          let whole = ap top (keep-whole level es (omega (arith, high, below, within))) in
          absurd (omega (arith, whole, high, below))
    ]

-- what is parked is parked under a literal that stays, where nothing is under those that go
parked_stays : (s : Clauses) (t : Trail) (but level : ℕ) (k : IsKeptBut s t but) → IsTrail t.vars t.entries → ((lit : ℤ) → In lit (trues t.entries) → In lit (trues (keep level t.entries)) ⊎ (park_of s lit ≡ 0))
    → (n m : ℕ) → k.hung.parked n ≡ true → IsPair n m → In (watch_of s m) (trues t.entries) → In (watch_of s m) (trues (keep level t.entries))
parked_stays s t but level k trail empty n m p q i = elim (empty (watch_of s m) i) [
  | inl stays ↦ stays
  | inr none ↦ absurd (at none u.nodes u.chain u.members (u.complete n (record { is_parked = p; under = λ j r. ap (watch_of s) (same_mate j r) })))
]
  where
    u : AreParked s k.hung.parked (watch_of s m) (park_of s (watch_of s m))
    u = k.hung.under (watch_of s m) (subst (λ (v : ℕ). IsLiteral v (watch_of s m)) (sym k.vars) (trail_vars t.vars t.entries trail (watch_of s m) i))

    same_mate : (j : ℕ) → IsPair n j → j ≡ m
    same_mate j r =
        let rs = r.same in
        let rd = r.differ in
        let qs = q.same in
        let qd = q.differ in
        omega (arith, rs, rd, qs, qd)

    at : park_of s (watch_of s m) ≡ 0 → (ns : List ℕ) → IsChain (next_of s) (park_of s (watch_of s m)) ns → ((x : ℕ) → In x ns → IsParkedUnder s k.hung.parked (watch_of s m) x) → In n ns → ⊥
    at none [] c all j = j
    at none (x ∷ xs) c all j = let low = (k.hung.watches.id x (k.hung.parked_watch x (all x (inl refl)).is_parked)).from_one in omega (arith, low, none, c.0)

pub kept_back : (s : Clauses) (t t' : Trail) (but level : ℕ) → t'.entries ≡ keep level t.entries → t'.vars ≡ t.vars → t'.done ≡ min t.done (length t'.entries) → IsTrail t.vars t.entries
    → ((lit : ℤ) → In lit (trues t.entries) → In lit (trues (keep level t.entries)) ⊎ (park_of s lit ≡ 0)) → IsKeptBut s t but → IsKeptBut s t' but
kept_back s t t' but level entries vars done trail empty k =
    let es = keep level t.entries in
    let left : t'.done ≡ min t.done (length es) = done ∙ ap (λ (xs : List Entry). min t.done (length xs)) entries in
    over s t t' but t.vars (min t.done (length es)) es (trail_is t' t.vars es (min t.done (length es)) vars entries left) refl (omega arith) (fresh_back level t.entries t.done k.fresh)
    (λ a b g. guard_back level t.entries t.done a b g) (λ lit i. subst (λ (xs : List Entry). In lit (trues xs)) (sym (keep_lower 0 level t.entries (omega arith))) i) k
    (parked_stays s t but level k trail empty)

-- ---- a unit step

pub kept_unit : (s : Clauses) (t t' : Trail) (but v id : ℕ) → t'.entries ≡ map (with_unit v id) t.entries → t'.vars ≡ t.vars → t'.done ≡ t.done → IsKeptBut s t but → IsKeptBut s t' but
kept_unit s t t' but v id entries vars done k =
    let es = map (with_unit v id) t.entries in
    let level_same : (n : ℕ) → trues (keep n es) ≡ trues (keep n t.entries) = λ n. ap trues (keep-with_unit v id n t.entries) ∙ trues-with_unit v id (keep n t.entries) in
    let oldest_same : (n : ℕ) → trues (oldest n es) ≡ trues (oldest n t.entries) = λ n. ap trues (oldest-with_unit v id n t.entries) ∙ trues-with_unit v id (oldest n t.entries) in
    let long = length-with_unit v id t.entries in
    let fits = k.done in
    over s t t' but t.vars t.done es (trail_is t' t.vars es t.done vars entries done) refl (omega (arith, long, fits))
    (λ level below.
    let tops = top-with_unit v id t.entries in
    let old = k.fresh level (omega (arith, below, tops)) in
    let same = ap length (keep-with_unit v id level t.entries) ∙ length-with_unit v id (keep level t.entries) in
    omega (arith, same, old))
    (λ a b g was level i. subst (λ (xs : List ℤ). In b xs) (sym (level_same level)) (g (subst (λ (xs : List ℤ). In (neg_ℤ a) xs) (oldest_same t.done) was) level (subst (λ (xs : List ℤ). In (neg_ℤ a) xs) (level_same level) i)))
    (λ lit i. subst (λ (xs : List ℤ). In lit xs) (sym (level_same 0)) i) k (λ n m p q i. subst (λ (xs : List ℤ). In (watch_of s m) xs) (sym (trues-with_unit v id t.entries)) i)

-- ---- a clause comes

pub clause_old : (db : List StoredClause) (c : StoredClause) (id : ℕ) → IsId db id → clause_at (db ++ c ∷ []) id ≡ clause_at db id
clause_old db c id is = let low = is.from_one in let high = is.within in get_or_append_left db (c ∷ []) no_clause (id - 1) (omega (arith, low, high))

pub clause_new : (db : List StoredClause) (c : StoredClause) (id : ℕ) → id ≡ length (db ++ c ∷ []) → clause_at (db ++ c ∷ []) id ≡ c
clause_new db c id e = let long = length_push db c in get_or_push db c no_clause (id - 1) (omega (arith, e, long))

id_more : (db : List StoredClause) (c : StoredClause) (id : ℕ) → IsId db id → IsId (db ++ c ∷ []) id
id_more db c id is = let long = length_push db c in let high = is.within in record { from_one = is.from_one; within = omega (arith, long, high) }

id_back : (db : List StoredClause) (c : StoredClause) (id : ℕ) → IsId (db ++ c ∷ []) id → id ≢ length (db ++ c ∷ []) → IsId db id
id_back db c id is ne = let long = length_push db c in let high = is.within in record { from_one = is.from_one; within = omega (arith, long, high, ne) }

module _ (s s' : Clauses) (links : KeepsLinks s s') where
  watch_same : (n : ℕ) → watch_of s' n ≡ watch_of s n
  watch_same n = ap (λ (p : Option (ℤ × ℤ)). literal_by p (n % 2)) (links.watched (n / 2))

  head_same : (lit : ℤ) → head_of s' lit ≡ head_of s lit
  head_same lit = ap (λ (xs : List ℕ). get_or xs (row_of lit) 0) links.heads

  tail_same : (lit : ℤ) → tail_of s' lit ≡ tail_of s lit
  tail_same lit = ap (λ (xs : List ℕ). get_or xs (row_of lit) 0) links.tails

  listed_same : (parked : ℕ → Bool) (lit : ℤ) → IsListed s parked lit → IsListed s' parked lit
  listed_same parked lit l = record {
    nodes = l.nodes;
    linked = record {
      chain = subst (λ (h : ℕ). IsChain (next_of s') h l.nodes) (sym (head_same lit)) (chain_same (next_of s) (next_of s') (head_of s lit) l.nodes (λ m i. links.nexts m) l.linked.chain);
      end = tail_same lit ∙ l.linked.end;
      apart = l.linked.apart;
    };
    watches = record {
      members = λ n i. watch_same n ∙ l.watches.members n i;
      unparked = l.watches.unparked;
      complete = λ n w u. l.watches.complete n (sym (watch_same n) ∙ w) u;
    };
  }

  park_same : (lit : ℤ) → park_of s' lit ≡ park_of s lit
  park_same lit = ap (λ (xs : List ℕ). get_or xs (row_of lit) 0) links.parks

  under_same : (parked : ℕ → Bool) (lit : ℤ) → AreParked s parked lit (park_of s lit) → AreParked s' parked lit (park_of s' lit)
  under_same parked lit u = record {
    nodes = u.nodes;
    chain = subst (λ (h : ℕ). IsChain (next_of s') h u.nodes) (sym (park_same lit)) (chain_same (next_of s) (next_of s') (park_of s lit) u.nodes (λ m i. links.nexts m) u.chain);
    apart = u.apart;
    members = λ n i. record { is_parked = (u.members n i).is_parked; under = λ m p. watch_same m ∙ (u.members n i).under m p };
    complete = λ n w. u.complete n (record { is_parked = w.is_parked; under = λ m p. sym (watch_same m) ∙ w.under m p });
  }

  new_watch : (n : ℕ) → IsWatch s n → IsWatch s' n
  new_watch n w e = w (sym (links.watched (n / 2)) ∙ e)

  -- where each watch hangs, with what is said of the watches
  hung_same : (t : Trail) → s'.vars ≡ s.vars → (h : AreHung s t) → AreWatches s' t.entries t.done → AreHung s' t
  hung_same t vars h ws = record {
    parked = h.parked;
    listed = λ lit is. listed_same h.parked lit (h.listed lit (subst (λ (v : ℕ). IsLiteral v lit) vars is));
    under = λ lit is. under_same h.parked lit (h.under lit (subst (λ (v : ℕ). IsLiteral v lit) vars is));
    satisfied = λ n m p q. subst (λ (l : ℤ). In l (trues t.entries)) (sym (watch_same m)) (h.satisfied n m p q);
    parked_watch = λ n p. new_watch n (h.parked_watch n p);
    watches = ws;
  }

  old_watch : (n : ℕ) → IsWatch s' n → IsWatch s n
  old_watch n w e = w (links.watched (n / 2) ∙ e)

-- the same clauses and lists
pub kept_links : (s s' : Clauses) (t : Trail) (but : ℕ) → KeepsLinks s s' → s'.clauses ≡ s.clauses → s'.vars ≡ s.vars → IsKeptBut s t but → IsKeptBut s' t but
kept_links s s' t but links clauses vars k = record {
  vars = vars ∙ k.vars;
  done = k.done;
  fresh = k.fresh;
  hung = hung_same s s' links t vars k.hung (record {
    id = λ n w. rw clauses (k.hung.watches.id n (old_watch s s' links n w));
    live = λ n w. rw clauses (k.hung.watches.live n (old_watch s s' links n w));
    stands = λ n w. rw (watch_same s s' links n, clauses) (k.hung.watches.stands n (old_watch s s' links n w));
    differ = λ n m p w e. k.hung.watches.differ n m p (old_watch s s' links n w) (sym (watch_same s s' links n) ∙ e ∙ watch_same s s' links m);
    guarded = λ n m p w. rw (watch_same s s' links n, watch_same s s' links m) (k.hung.watches.guarded n m p (old_watch s s' links n w));
  });
  settled = λ none i ne is live idle.
      subst (λ (db : List StoredClause). IsSettled db t.entries i) (sym clauses)
      (k.settled (sym links.false_id ∙ none) i ne (subst (λ (db : List StoredClause). IsId db i) clauses is) (ap (λ (db : List StoredClause). (clause_at db i).live) (sym clauses) ∙ live) (sym (links.watched i) ∙ idle));
  false_clause = λ some. rw (clauses, links.false_id) (k.false_clause (λ e. some (links.false_id ∙ e)));
}

module _ (s s' : Clauses) (c : StoredClause) (links : KeepsLinks s s') (clauses : s'.clauses ≡ s.clauses ++ c ∷ []) (vars : s'.vars ≡ s.vars) where
  clause_same : (id : ℕ) → IsId s.clauses id → clause_at s'.clauses id ≡ clause_at s.clauses id
  clause_same id is = ap (λ (db : List StoredClause). clause_at db id) clauses ∙ clause_old s.clauses c id is

  more : (id : ℕ) → IsId s.clauses id → IsId s'.clauses id
  more id is = subst (λ (db : List StoredClause). IsId db id) (sym clauses) (id_more s.clauses c id is)

  -- all is kept but of the new clause
  pub kept_added : (t : Trail) (id : ℕ) → id ≡ length s'.clauses → IsKept s t → IsKeptBut s' t id
  kept_added t id here k = record {
    vars = vars ∙ k.vars;
    done = k.done;
    fresh = k.fresh;
    hung = hung_same s s' links t vars k.hung (record {
      id = λ n w. more (n / 2) (k.hung.watches.id n (old_watch s s' links n w));
      live = λ n w. ap (λ (x : StoredClause). x.live) (clause_same (n / 2) (k.hung.watches.id n (old_watch s s' links n w))) ∙ k.hung.watches.live n (old_watch s s' links n w);
      stands = λ n w. rw (watch_same s s' links n, clause_same (n / 2) (k.hung.watches.id n (old_watch s s' links n w))) (k.hung.watches.stands n (old_watch s s' links n w));
      differ = λ n m p w e. k.hung.watches.differ n m p (old_watch s s' links n w) (sym (watch_same s s' links n) ∙ e ∙ watch_same s s' links m);
      guarded = λ n m p w. rw (watch_same s s' links n, watch_same s s' links m) (k.hung.watches.guarded n m p (old_watch s s' links n w));
    });
    settled = λ none i ne is live idle.
        let old : IsId s.clauses i = id_back s.clauses c i (subst (λ (db : List StoredClause). IsId db i) clauses is) (λ e. ne (e ∙ ap length (sym clauses) ∙ sym here)) in
        let some = old.from_one in
        let same = clause_same i old in
        let x = k.settled (sym links.false_id ∙ none) i (omega (arith, some)) old (ap (λ (y : StoredClause). y.live) (sym same) ∙ live) (sym (links.watched i) ∙ idle) in
        (x.0, subst (λ (y : StoredClause). In x.0 y.lits) (sym same) x.1, x.2);
    false_clause = λ some.
        let f = k.false_clause (λ e. some (links.false_id ∙ e)) in
        let same = clause_same s.false_id f.is_id in
        subst (λ (i : ℕ). IsFalseAtRoot s'.clauses t.entries i) (sym links.false_id) (record {
          is_id = more s.false_id f.is_id;
          live = ap (λ (y : StoredClause). y.live) same ∙ f.live;
          is_false = λ lit i. f.is_false lit (subst (λ (y : StoredClause). In lit y.lits) same i);
        });
  }

-- a clause that is settled, or not live
pub kept_settled : (s : Clauses) (t : Trail) (id : ℕ) → ((clause_at s.clauses id).live ≡ true → IsSettled s.clauses t.entries id) → IsKeptBut s t id → IsKept s t
kept_settled s t id settles k = record {
  vars = k.vars;
  done = k.done;
  fresh = k.fresh;
  hung = k.hung;
  settled = λ none i ne is live idle. elim (cases_eq i id) [
    | inl e ↦ subst (λ (j : ℕ). IsSettled s.clauses t.entries j) (sym e) (settles (subst (λ (j : ℕ). (clause_at s.clauses j).live ≡ true) e live))
    | inr other ↦ k.settled none i other is live idle
  ];
  false_clause = k.false_clause;
}

-- a clause that is false at level 0, and is kept as such
pub kept_false : (s s' : Clauses) (t : Trail) (id : ℕ) → s' ≡ record s { false_id = id } → IsFalseAtRoot s.clauses t.entries id → IsKeptBut s t id → IsKept s' t
kept_false s s' t id is f k = subst (λ (x : Clauses). IsKept x t) (sym is) (record {
  vars = k.vars;
  done = k.done;
  fresh = k.fresh;
  hung = record {
    parked = k.hung.parked;
    listed = λ lit l. let x = k.hung.listed lit l in record {
      nodes = x.nodes;
      linked = record { chain = x.linked.chain; end = x.linked.end; apart = x.linked.apart };
      watches = record { members = x.watches.members; unparked = x.watches.unparked; complete = x.watches.complete };
    };
    under = λ lit l. let x = k.hung.under lit l in record {
      nodes = x.nodes;
      chain = x.chain;
      apart = x.apart;
      members = λ n i. let u = x.members n i in record { is_parked = u.is_parked; under = u.under };
      complete = λ n u. x.complete n (record { is_parked = u.is_parked; under = u.under });
    };
    satisfied = k.hung.satisfied;
    parked_watch = k.hung.parked_watch;
    watches = record { id = k.hung.watches.id; live = k.hung.watches.live; stands = k.hung.watches.stands; differ = k.hung.watches.differ; guarded = k.hung.watches.guarded };
  };
  settled = λ none i ne is live idle. let low = f.is_id.from_one in absurd (omega (arith, none, low));
  false_clause = λ some. f;
})

-- ---- lists change, and nothing else

pub kept_hung : (s s' : Clauses) (t : Trail) (but : ℕ) → s' ≡ record s { nexts = s'.nexts; heads = s'.heads; tails = s'.tails; parks = s'.parks } → AreHung s' t → IsKeptBut s t but → IsKeptBut s' t but
kept_hung s s' t but rest hung k = record {
  vars = ap (λ (x : Clauses). x.vars) rest ∙ k.vars;
  done = k.done;
  fresh = k.fresh;
  hung = hung;
  settled = subst (λ (x : Clauses). x.false_id ≡ 0 → (id : ℕ) → id ≢ but → IsId x.clauses id → (clause_at x.clauses id).live ≡ true → watched_at x id ≡ None → IsSettled x.clauses t.entries id) (sym rest) k.settled;
  false_clause = subst (λ (x : Clauses). x.false_id ≢ 0 → IsFalseAtRoot x.clauses t.entries x.false_id) (sym rest) k.false_clause;
}
