-- One step of the walk, as the code takes it.
use Rattle.std.proofs.Common.{◌≡◌, ◌≢◌, ℕ, suc, ◌+◌, ◌-◌, ◌*◌, ◌/◌, ◌%◌, ◌<◌, List, [], ◌∷◌, ◌++◌, length, Option, Some, None, refl, sym, ◌∙◌, ap, subst, inl, inr, arith, true}
use Rattle.std.specs.Prelude.{ℤ, neg_ℤ, IfSome}
use Rattle.std.proofs.lemmas.Bool.{cases_eq}
use Rattle.sat_base.specs.Members.{In}
use Rattle.sat_base.proofs.Members.{In-append_left, In-append_right}
use Rattle.sat_base.specs.Literals.{IsLiteral}
use Rattle.sat_base.specs.Units.{AllFalse, AllFalseBut, IsReason, IsConsequence, IsFalsified}
use Rattle.sat_base.specs.Database.{StoredClause}
use Rattle.sat_base.proofs.DatabaseLemmas.{named_at, live_at}
use Rattle.clause_store.specs.Clauses.{Clauses, clause_at, no_clause, IsId}
use Rattle.clause_store.specs.Links.{watched_at, watch_of, next_of, tail_of, link_of, literal_by}
use Rattle.trail_book.specs.Trail.{Trail, trues, IsTrail}
use Rattle.trail_book.proofs.TrailLemmas.{trail_consistent}
use Rattle.propagate.specs.Lists.{IsPair, IsChain, last_of}
use Rattle.propagate.specs.Watches.{IsLinked, AreWatchesOf, IsListed, IsWatch, IsSettled, IsKeptBut, IsKept, KeepsClauses}
use Rattle.propagate.specs.Walk.{IsNode, Unlinks, Appends, CanWatch, IsWalk}
use Rattle.propagate.proofs.ListLemmas.{last_in}
use Rattle.propagate.proofs.WalkLemmas.{is_watch, watched_some, node_is, node_of_last, stands_at, node, is_node, at_watched, now_false, advance}
use Rattle.propagate.proofs.MoveLemmas.{list_left, watches_left, all_listed, parked_left, chain_left, moved_watches}

-- a live clause that forces a literal is its reason
pub reason_at : (db : List StoredClause) (trues : List ℤ) (id : ℕ) (lit : ℤ) → IsId db id → (clause_at db id).live ≡ true → In lit (clause_at db id).lits → AllFalseBut trues (clause_at db id).lits lit
    → IsReason db trues lit id × IsConsequence db trues lit
reason_at db trues id lit is_id live has others = (
  record { clause = (clause_at db id).lits; named = named_at db id no_clause is_id.from_one is_id.within; has = has; others = others },
  record { clause = (clause_at db id).lits; live = live_at db id no_clause is_id.from_one is_id.within live; has = has; others = others },
)

pub falsified_at : (db : List StoredClause) (trues : List ℤ) (id : ℕ) → IsId db id → (clause_at db id).live ≡ true → AllFalse trues (clause_at db id).lits → IsFalsified db trues id
falsified_at db trues id is_id live all = record {
  clause = (clause_at db id).lits;
  named = named_at db id no_clause is_id.from_one is_id.within;
  live = live_at db id no_clause is_id.from_one is_id.within live;
  is_false = all;
}

pub keeps_same : (s : Clauses) → KeepsClauses s s
keeps_same s = record { vars = refl; clauses = refl; false_id = refl; room = refl; literal_room = refl }

pub keeps_trans : (s s₁ s₂ : Clauses) → KeepsClauses s s₁ → KeepsClauses s₁ s₂ → KeepsClauses s s₂
keeps_trans s s₁ s₂ a b = record { vars = b.vars ∙ a.vars; clauses = b.clauses ∙ a.clauses; false_id = b.false_id ∙ a.false_id; room = b.room ∙ a.room; literal_room = b.literal_room ∙ a.literal_room }

-- the clause before is one of the list
pub before_ok : (s : Clauses) (t : Trail) (z : ℤ) (before : Option ℕ) (id fuel : ℕ) → IsWalk s t z (link_of before) id fuel → IfSome before (λ i. 0 < i) → IfSome before (λ i. IsId s.clauses i × (watched_at s i ≢ None))
before_ok s t z None id fuel w some = tt
before_ok s t z (Some i) id fuel w some = at w.seen w.before_is (λ k j. w.watches.members k (in_left k j))
  where
    in_left : (k : ℕ) → In k w.seen → In k (w.seen ++ w.ahead)
    in_left k j = In-append_left k w.seen w.ahead j

    at : (seen : List ℕ) → i ≡ last_of 0 seen / 2 → ((k : ℕ) → In k seen → watch_of s k ≡ z) → IsId s.clauses i × (watched_at s i ≢ None)
    at [] e all = absurd (omega (arith, e, some))
    at (x ∷ xs) e all =
        let last = last_of x xs in
        let is = is_watch s z last w.literal (all last (last_in x xs)) in
        (subst (λ (j : ℕ). IsId s.clauses j) (sym e) (w.kept.hung.watches.id last is), watched_some s last i (sym e) is)

-- so is the last one of any list
pub tail_ok : (s : Clauses) (t : Trail) (but : ℕ) (lit : ℤ) → IsKeptBut s t but → IsLiteral s.vars lit → tail_of s lit ≢ 0 → watched_at s (tail_of s lit) ≢ None
tail_ok s t but lit k is some = at l.nodes l.linked.end l.watches.members
  where
    l : IsListed s k.hung.parked lit
    l = k.hung.listed lit is

    at : (ns : List ℕ) → tail_of s lit ≡ last_of 0 ns / 2 → ((n : ℕ) → In n ns → watch_of s n ≡ lit) → watched_at s (tail_of s lit) ≢ None
    at [] e all = absurd (some (omega (arith, e)))
    at (x ∷ xs) e all = watched_some s (last_of x xs) (tail_of s lit) (sym e) (is_watch s lit (last_of x xs) is (all (last_of x xs) (last_in x xs)))

-- ---- what set_watched changes, by watch

module _ (s s' : Clauses) (id : ℕ) (pair : ℤ × ℤ) (set : watched_at s' id ≡ Some pair) (others : (i : ℕ) → i ≢ id → watched_at s' i ≡ watched_at s i) where
  pub watch_first : (n : ℕ) → n ≡ 2 * id → watch_of s' n ≡ pair.0
  watch_first n e =
      let h : n / 2 ≡ id = omega (arith, e) in
      let r : n % 2 ≡ 0 = omega (arith, e) in
      rw (h, r, set) refl

  pub watch_second : (n : ℕ) → n ≡ 2 * id + 1 → watch_of s' n ≡ pair.1
  watch_second n e =
      let h : n / 2 ≡ id = omega (arith, e) in
      let r : n % 2 ≡ 1 = omega (arith, e) in
      rw (h, r, set) refl

  pub watch_other : (n : ℕ) → n / 2 ≢ id → watch_of s' n ≡ watch_of s n
  watch_other n ne = ap (λ (p : Option (ℤ × ℤ)). literal_by p (n % 2)) (others (n / 2) ne)

-- ---- a clause whose other watch is true

module _ (s : Clauses) (t : Trail) (z : ℤ) (before id fuel : ℕ) (w : IsWalk s t z before id (suc fuel)) (some : 0 < id) (place : ℕ) (other : ℤ)
    (two : place < 2) (first : place ≡ 0 → watch_of s (2 * id) ≡ z) (second : place ≡ 1 → watch_of s (2 * id) ≢ z) (other_is : other ≡ watch_of s (2 * id + (1 - place))) where
  pub node_at : node s t z before id (suc fuel) w some ≡ 2 * id + place
  node_at = node_is s z id (node s t z before id (suc fuel) w some) place some (is_node s t z before id (suc fuel) w some) two first second

  pub mate_is : (m : ℕ) → IsPair (node s t z before id (suc fuel) w some) m → watch_of s m ≡ other
  mate_is m p =
      let same = p.same in
      let differ = p.differ in
      let at = node_at in
      let e : m ≡ 2 * id + (1 - place) = omega (arith, same, differ, at, two) in
      ap (watch_of s) e ∙ sym other_is

  pub stays : In other (trues t.entries) → (next : ℕ) → next ≡ next_of s (2 * id + place) → IsWalk s t z id next fuel
  stays on next is =
      let x = advance s t z before id fuel w some (λ m p. subst (λ (l : ℤ). In l (trues t.entries)) (sym (mate_is m p)) on) in
      subst (λ (k : ℕ). IsWalk s t z id k fuel) (ap (next_of s) node_at ∙ sym is) x

-- ---- a clause that goes to another list

pub watched_rest : (s s₁ s₂ : Clauses) (i : ℕ) → s₁ ≡ record s { nexts = s₁.nexts; heads = s₁.heads; tails = s₁.tails } → s₂ ≡ record s₁ { nexts = s₂.nexts; heads = s₂.heads; tails = s₂.tails } → watched_at s₂ i ≡ watched_at s i
watched_rest s s₁ s₂ i e f = ap (λ (x : Clauses). watched_at x i) f ∙ ap (λ (x : Clauses). watched_at x i) e

pub watch_rest : (s s₁ : Clauses) (k : ℕ) → s₁ ≡ record s { nexts = s₁.nexts; heads = s₁.heads; tails = s₁.tails } → watch_of s₁ k ≡ watch_of s k
watch_rest s s₁ k e = ap (λ (x : Clauses). watch_of x k) e

-- the last watch of a list, where only links have changed
pub tail_node : (s s₁ : Clauses) (t : Trail) (but : ℕ) (z to : ℤ) (k : IsKeptBut s t but) (is : IsLiteral s.vars to) → to ≢ z → ((y : ℤ) → y ≢ z → tail_of s₁ y ≡ tail_of s y)
    → s₁ ≡ record s { nexts = s₁.nexts; heads = s₁.heads; tails = s₁.tails } → IsNode s₁ to (tail_of s₁ to) (last_of 0 (k.hung.listed to is).nodes)
tail_node s s₁ t but z to k is ne tails rest =
    let l = k.hung.listed to is in
    let last = last_of 0 l.nodes in
    let node = node_of_last s t.entries t.done to l.nodes k.hung.watches is l.watches.members in
    let end : tail_of s₁ to ≡ last / 2 = tails to ne ∙ l.linked.end in
    record {
      half = sym end;
      none = λ e. node.none (sym end ∙ e);
      watches = λ any. watch_rest s s₁ last rest ∙ node.watches (λ e. any (end ∙ e));
      alone = λ any m p e. node.alone (λ f. any (end ∙ f)) m p (sym (watch_rest s s₁ m rest) ∙ e);
    }

-- what is not false is another literal
pub moves_away : (s : Clauses) (t : Trail) (z to other : ℤ) (before id fuel : ℕ) (w : IsWalk s t z before id fuel) (some : 0 < id) → CanWatch s.vars (trues t.entries) (clause_at s.clauses id).lits other to → to ≢ z
moves_away s t z to other before id fuel w some can e = can.not_false (subst (λ (l : ℤ). In (neg_ℤ l) (trues t.entries)) (sym e) (now_false s t z before id fuel w some))

-- the watch behind which the walk stands
pub walk_before : (s : Clauses) (t : Trail) (z : ℤ) (before id fuel : ℕ) (w : IsWalk s t z before id fuel) → IsNode s z before (last_of 0 w.seen)
walk_before s t z before id fuel w =
    subst (λ (i : ℕ). IsNode s z i (last_of 0 w.seen)) (sym w.before_is)
    (node_of_last s t.entries t.done z w.seen w.kept.hung.watches w.literal (λ k i. w.watches.members k (In-append_left k w.seen w.ahead i)))

-- where a watch has left a list, the last clause of another list is watched still
pub tail_after : (s s₁ : Clauses) (t : Trail) (z to : ℤ) (before id fuel goes : ℕ) (w : IsWalk s t z before id fuel) → to ≢ z → IsLiteral s.vars to → ((node : ℕ) → IsNode s z before node → Unlinks s s₁ z node goes)
    → s₁ ≡ record s { nexts = s₁.nexts; heads = s₁.heads; tails = s₁.tails } → tail_of s₁ to ≢ 0 → watched_at s₁ (tail_of s₁ to) ≢ None
tail_after s s₁ t z to before id fuel goes w ne is un rest some e =
    let same = (un (last_of 0 w.seen) (walk_before s t z before id fuel w)).tails to ne in
    tail_ok s t 0 to w.kept is (λ f. some (same ∙ f)) (ap (watched_at s) (sym same) ∙ sym (ap (λ (x : Clauses). watched_at x (tail_of s₁ to)) rest) ∙ e)

module _ (s s₁ s₂ s₃ : Clauses) (t : Trail) (z to other : ℤ) (before id fuel place goes : ℕ) (pair : ℤ × ℤ) (w : IsWalk s t z before id (suc fuel)) (some : 0 < id)
    (two : place < 2) (first : place ≡ 0 → watch_of s (2 * id) ≡ z) (second : place ≡ 1 → watch_of s (2 * id) ≢ z) (other_is : other ≡ watch_of s (2 * id + (1 - place)))
    (trail : IsTrail t.vars t.entries) (can : CanWatch s.vars (trues t.entries) (clause_at s.clauses id).lits other to) (goes_is : goes ≡ next_of s (2 * id + place))
    (un : (node : ℕ) → IsNode s z before node → Unlinks s s₁ z node goes) (un_rest : s₁ ≡ record s { nexts = s₁.nexts; heads = s₁.heads; tails = s₁.tails })
    (on : (node : ℕ) → IsNode s₁ to (tail_of s₁ to) node → Appends s₁ s₂ to node (2 * id + place)) (on_rest : s₂ ≡ record s₁ { nexts = s₂.nexts; heads = s₂.heads; tails = s₂.tails })
    (set : watched_at s₃ id ≡ Some pair) (others : (i : ℕ) → i ≢ id → watched_at s₃ i ≡ watched_at s₂ i) (last_rest : s₃ ≡ record s₂ { watched = s₃.watched })
    (pair_first : place ≡ 0 → (pair.0 ≡ to) × (pair.1 ≡ other)) (pair_second : place ≢ 0 → (pair.0 ≡ other) × (pair.1 ≡ to)) where
  at : (stands_at (next_of s) id w.ahead some w.at_is).0 ≡ 2 * id + place
  at = node_at s t z before id fuel w some place other two first second other_is

  not_z : to ≢ z
  not_z = moves_away s t z to other before id (suc fuel) w some can

  new : watch_of s₃ (2 * id + place) ≡ to
  new = elim (cases_eq place 0) [
    | inl e ↦ watch_first s₂ s₃ id pair set others (2 * id + place) (omega (arith, e)) ∙ (pair_first e).0
    | inr ne ↦ watch_second s₂ s₃ id pair set others (2 * id + place) (omega (arith, ne, two)) ∙ (pair_second ne).1
  ]

  mate : (k : ℕ) → k / 2 ≡ id → k ≢ 2 * id + place → watch_of s₃ k ≡ other
  mate k half_k ne = elim (cases_eq place 0) [
    | inl e ↦ watch_second s₂ s₃ id pair set others k (omega (arith, e, half_k, ne)) ∙ (pair_first e).1
    | inr d ↦ watch_first s₂ s₃ id pair set others k (omega (arith, d, two, half_k, ne)) ∙ (pair_second d).0
  ]

  mate_was : (k : ℕ) → k / 2 ≡ id → k ≢ 2 * id + place → watch_of s k ≡ other
  mate_was k half_k ne = let e : k ≡ 2 * id + (1 - place) = omega (arith, half_k, ne, two) in ap (watch_of s) e ∙ sym other_is

  old : (k : ℕ) → k ≢ 2 * id + place → watch_of s₃ k ≡ watch_of s k
  old k ne = elim (cases_eq (k / 2) id) [
    | inl half_k ↦ mate k half_k ne ∙ sym (mate_was k half_k ne)
    | inr far ↦ watch_other s₂ s₃ id pair set others k far ∙ watch_rest s₁ s₂ k on_rest ∙ watch_rest s s₁ k un_rest
  ]

  whole : w.seen ++ w.ahead ≡ w.seen ++ (2 * id + place) ∷ (stands_at (next_of s) id w.ahead some w.at_is).1
  whole = ap (λ (ns : List ℕ). w.seen ++ ns) ((stands_at (next_of s) id w.ahead some w.at_is).2 ∙ ap (λ (k : ℕ). k ∷ (stands_at (next_of s) id w.ahead some w.at_is).1) at)

  linked : IsLinked s z (w.seen ++ (2 * id + place) ∷ (stands_at (next_of s) id w.ahead some w.at_is).1)
  linked = subst (λ (ns : List ℕ). IsLinked s z ns) whole w.linked

  all : AreWatchesOf s w.kept.hung.parked z (w.seen ++ (2 * id + place) ∷ (stands_at (next_of s) id w.ahead some w.at_is).1)
  all = subst (λ (ns : List ℕ). AreWatchesOf s w.kept.hung.parked z ns) whole w.watches

  leaves : Unlinks s s₁ z (last_of 0 w.seen) (next_of s (2 * id + place))
  leaves = subst (λ (g : ℕ). Unlinks s s₁ z (last_of 0 w.seen) g) goes_is (un (last_of 0 w.seen) (walk_before s t z before id (suc fuel) w))

  comes : Appends s₁ s₂ to (last_of 0 (w.kept.hung.listed to can.literal).nodes) (2 * id + place)
  comes = on (last_of 0 (w.kept.hung.listed to can.literal).nodes) (tail_node s s₁ t 0 z to w.kept can.literal not_z leaves.tails un_rest)

  was_watch : (k : ℕ) → IsWatch s₃ k → IsWatch s k
  was_watch k i e = elim (cases_eq (k / 2) id) [
    | inl half_k ↦ at_watched s t z before id (suc fuel) w some (ap (watched_at s) (sym half_k) ∙ e)
    | inr far ↦ i (others (k / 2) far ∙ watched_rest s s₁ s₂ (k / 2) un_rest on_rest ∙ e)
  ]

  clauses_are : s₃.clauses ≡ s.clauses
  clauses_are = ap (λ (x : Clauses). x.clauses) last_rest ∙ ap (λ (x : Clauses). x.clauses) on_rest ∙ ap (λ (x : Clauses). x.clauses) un_rest

  vars_are : s₃.vars ≡ s.vars
  vars_are = ap (λ (x : Clauses). x.vars) last_rest ∙ ap (λ (x : Clauses). x.vars) on_rest ∙ ap (λ (x : Clauses). x.vars) un_rest

  false_id_is : s₃.false_id ≡ s.false_id
  false_id_is = ap (λ (x : Clauses). x.false_id) last_rest ∙ ap (λ (x : Clauses). x.false_id) on_rest ∙ ap (λ (x : Clauses). x.false_id) un_rest

  pub moved_keeps : KeepsClauses s s₃
  moved_keeps = record { vars = vars_are; clauses = clauses_are; false_id = false_id_is; room = ap (λ (x : Clauses). x.room) last_rest ∙ ap (λ (x : Clauses). x.room) on_rest ∙ ap (λ (x : Clauses). x.room) un_rest; literal_room = ap (λ (x : Clauses). x.literal_room) last_rest ∙ ap (λ (x : Clauses). x.literal_room) on_rest ∙ ap (λ (x : Clauses). x.literal_room) un_rest }

  none_some : ◌≡◌ {A = Option (ℤ × ℤ)} (Some pair) None → ⊥
  none_some e = cc

  here_z : watch_of s (2 * id + place) ≡ z
  here_z = all.members (2 * id + place) (In-append_right (2 * id + place) w.seen ((2 * id + place) ∷ (stands_at (next_of s) id w.ahead some w.at_is).1) (inl refl))

  -- the literal is false, so no watch is parked under it
  z_not_true : ¬ In z (trues t.entries)
  z_not_true i = trail_consistent t.vars t.entries trail z i (now_false s t z before id (suc fuel) w some)

  mate_hangs : (k : ℕ) → IsPair k (2 * id + place) → w.kept.hung.parked k ≡ true → ⊥
  mate_hangs k p is = z_not_true (subst (λ (l : ℤ). In l (trues t.entries)) here_z (w.kept.hung.satisfied k (2 * id + place) is p))

  parked_some : (k : ℕ) → w.kept.hung.parked k ≡ true → 0 < k / 2
  parked_some k p = (w.kept.hung.watches.id k (w.kept.hung.parked_watch k p)).from_one

  parked_true : (a b : ℕ) → w.kept.hung.parked a ≡ true → IsPair a b → In (watch_of s₃ b) (trues t.entries)
  parked_true a b p q = elim (cases_eq b (2 * id + place)) [
    | inl e ↦ absurd (mate_hangs a (subst (λ (x : ℕ). IsPair a x) e q) p)
    | inr d ↦ subst (λ (l : ℤ). In l (trues t.entries)) (sym (old b d)) (w.kept.hung.satisfied a b p q)
  ]

  is_still : (k : ℕ) → IsWatch s k → IsWatch s₃ k
  is_still k i e = elim (cases_eq (k / 2) id) [
    | inl half_k ↦ none_some (sym set ∙ ap (watched_at s₃) (sym half_k) ∙ e)
    | inr far ↦ i (sym (watched_rest s s₁ s₂ (k / 2) un_rest on_rest) ∙ sym (others (k / 2) far) ∙ e)
  ]

  abbrev kept : IsKept s₃ t
  kept = record {
    vars = vars_are ∙ w.kept.vars;
    done = w.kept.done;
    fresh = w.kept.fresh;
    hung = record {
      parked = w.kept.hung.parked;
      under = λ lit is. parked_left s s₁ s₂ s₃ t.entries t.done t.vars w.kept.hung.parked z to other (2 * id + place) 0 w.seen (stands_at (next_of s) id w.ahead some w.at_is).1 w.kept.hung.watches w.kept.hung.listed w.literal can.literal not_z linked all leaves un_rest comes on_rest new old last_rest was_watch parked_some mate_hangs lit
          (w.kept.hung.under lit (subst (λ (v : ℕ). IsLiteral v lit) vars_are is));
      satisfied = parked_true;
      parked_watch = λ k p. is_still k (w.kept.hung.parked_watch k p);
      listed = λ lit is. all_listed s s₁ s₂ s₃ t.entries t.done t.vars w.kept.hung.parked z to other (2 * id + place) 0 w.seen (stands_at (next_of s) id w.ahead some w.at_is).1 w.kept.hung.watches w.kept.hung.listed w.literal can.literal not_z linked all leaves un_rest comes on_rest new old last_rest was_watch lit
          (subst (λ (v : ℕ). IsLiteral v lit) vars_are is);
      watches = moved_watches s s₁ s₂ s₃ t.entries t.done t.vars w.kept.hung.parked z to other (2 * id + place) 0 w.seen (stands_at (next_of s) id w.ahead some w.at_is).1 w.kept.hung.watches w.kept.hung.listed w.literal can.literal not_z linked all leaves un_rest comes on_rest new old last_rest was_watch trail
          (now_false s t z before id (suc fuel) w some) can.not_false
          (let half_m : (2 * id + place) / 2 ≡ id = omega (arith, two) in subst (λ (i : ℕ). In to (clause_at s.clauses i).lits) (sym half_m) can.stands)
          (λ k p e. let same = p.same in let differ = p.differ in can.differs (e ∙ mate_was k (omega (arith, same, two)) (λ f. differ (sym f))));
    };
    settled = λ none i ne is live idle. elim (cases_eq i id) [
      | inl e ↦ absurd (none_some (sym set ∙ ap (watched_at s₃) (sym e) ∙ idle))
      | inr far ↦
          let y = w.kept.settled w.none i ne (subst (λ (db : List StoredClause). IsId db i) clauses_are is) (ap (λ (db : List StoredClause). (clause_at db i).live) (sym clauses_are) ∙ live)
          (sym (watched_rest s s₁ s₂ i un_rest on_rest) ∙ sym (others i far) ∙ idle)
          in
          subst (λ (db : List StoredClause). IsSettled db t.entries i) (sym clauses_are) y
    ];
    false_clause = λ any. absurd (any (false_id_is ∙ w.none));
  }

  pub moved : IsWalk s₃ t z before goes fuel
  moved =
      let long = ap length (stands_at (next_of s) id w.ahead some w.at_is).2 in
      let enough = w.enough in
      record {
        kept = kept;
        none = false_id_is ∙ w.none;
        literal = subst (λ (v : ℕ). IsLiteral v z) (sym vars_are) w.literal;
        waiting = w.waiting;
        now = w.now;
        seen = w.seen;
        ahead = (stands_at (next_of s) id w.ahead some w.at_is).1;
        linked = list_left s s₁ s₂ s₃ t.entries t.done t.vars w.kept.hung.parked z to other (2 * id + place) 0 w.seen (stands_at (next_of s) id w.ahead some w.at_is).1 w.kept.hung.watches w.kept.hung.listed w.literal can.literal not_z linked all leaves un_rest comes on_rest new old last_rest was_watch;
        watches = watches_left s s₁ s₂ s₃ t.entries t.done t.vars w.kept.hung.parked z to other (2 * id + place) 0 w.seen (stands_at (next_of s) id w.ahead some w.at_is).1 w.kept.hung.watches w.kept.hung.listed w.literal can.literal not_z linked all leaves un_rest comes on_rest new old last_rest was_watch;
        before_is = w.before_is;
        at_is = subst (λ (g : ℕ). IsChain (next_of s₃) g (stands_at (next_of s) id w.ahead some w.at_is).1) (sym goes_is)
            (chain_left s s₁ s₂ s₃ t.entries t.done t.vars w.kept.hung.parked z to other (2 * id + place) 0 w.seen (stands_at (next_of s) id w.ahead some w.at_is).1 w.kept.hung.watches w.kept.hung.listed w.literal can.literal not_z linked all leaves un_rest comes on_rest new old last_rest was_watch);
        shielded = λ a b p i. seen_true a b p i;
        enough = omega (arith, enough, long);
      }
    where
      seen_true : (a b : ℕ) → IsPair a b → In a w.seen → In (watch_of s₃ b) (trues t.entries)
      seen_true a b p i = elim (cases_eq b (2 * id + place)) [
        | inl e ↦
            let on_z : In (watch_of s b) (trues t.entries) = w.shielded a b p i in
            absurd (trail_consistent t.vars t.entries trail z (subst (λ (l : ℤ). In l (trues t.entries)) (ap (watch_of s) e ∙ here_z) on_z) (now_false s t z before id (suc fuel) w some))
        | inr d ↦ subst (λ (l : ℤ). In l (trues t.entries)) (sym (old b d)) (w.shielded a b p i)
      ]
