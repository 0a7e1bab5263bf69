-- A watch that moves from the list of a false literal to that of another.
use Rattle.std.proofs.Common.{◌≡◌, ◌≢◌, ◌⊎◌, ℕ, ◌/◌, ◌<◌, List, [], ◌∷◌, ◌++◌, refl, sym, ◌∙◌, ap, subst, inl, inr, arith, true}
use Rattle.std.specs.Prelude.{ℤ, neg_ℤ, Decides, Bool, false}
use Rattle.std.specs.Ordering.{int_eq}
use Rattle.std.proofs.lemmas.Bool.{cases_eq, false≢true}
use Rattle.std.proofs.lemmas.Bool.Decides.{Decides-int_eq}
use Rattle.sat_base.specs.Members.{In}
use Rattle.sat_base.specs.Literals.{IsLiteral}
use Rattle.sat_base.proofs.Members.{In-append_left, In-append_right, In-append_cases}
use Rattle.clause_store.specs.Clauses.{Clauses, clause_at, IsId}
use Rattle.clause_store.specs.Links.{watch_of, next_of, head_of, park_of}
use Rattle.trail_book.specs.declared.entry.Entry.{Entry}
use Rattle.trail_book.specs.Trail.{trues, keep, oldest, IsTrail}
use Rattle.trail_book.proofs.TrailLemmas.{trail_consistent, lit-keep_in}
use Rattle.propagate.specs.Lists.{IsPair, IsChain, last_of}
use Rattle.propagate.specs.Watches.{IsLinked, AreWatchesOf, IsListed, AreParked, IsWatch, AreWatches}
use Rattle.propagate.specs.Walk.{Unlinks, Appends}
use Rattle.propagate.proofs.ListLemmas.{AreNodes, last_in, in_with, in_without, apart_here, chain_same, chain_behind, last_before, unlinked, unlinked_other, appended, appended_other, last_unparked}
use Rattle.propagate.proofs.WalkLemmas.{is_watch, are_nodes}

from_test : {P : Type 0} → (b : Bool) → Decides b P → P ⊎ (P → ⊥)
from_test true d = inl (d.0 refl)
from_test false d = inr (λ p. false≢true (d.1 p))

pub cases_literal : (x y : ℤ) → (x ≡ y) ⊎ (x ≢ y)
cases_literal x y = from_test (int_eq x y) (Decides-int_eq x y)

-- the watch n watches `to` now, and the lists of its old literal and of its new one have changed: s is before, s₁ where it has left, s₂ where it
-- has come, and s₃ where it watches the new one
module _ (s s₁ s₂ s₃ : Clauses) (es : List Entry) (done vars : ℕ) (parked : ℕ → Bool) (z to other : ℤ) (n m : ℕ) (seen rest : List ℕ)
    (ws : AreWatches s es done) (lists : (lit : ℤ) → IsLiteral s.vars lit → IsListed s parked lit)
    (z_literal : IsLiteral s.vars z) (to_literal : IsLiteral s.vars to) (ne : to ≢ z)
    (linked : IsLinked s z (seen ++ n ∷ rest)) (all : AreWatchesOf s parked z (seen ++ n ∷ rest))
    (un : Unlinks s s₁ z (last_of 0 seen) (next_of s n)) (un_rest : s₁ ≡ record s { nexts = s₁.nexts; heads = s₁.heads; tails = s₁.tails })
    (on : Appends s₁ s₂ to (last_of 0 (lists to to_literal).nodes) n) (on_rest : s₂ ≡ record s₁ { nexts = s₂.nexts; heads = s₂.heads; tails = s₂.tails })
    (new : watch_of s₃ n ≡ to) (old : (k : ℕ) → k ≢ n → watch_of s₃ k ≡ watch_of s k) (last_rest : s₃ ≡ record s₂ { watched = s₃.watched })
    (was_watch : (k : ℕ) → IsWatch s₃ k → IsWatch s k) where
  hangs : parked n ≡ false
  hangs = all.unparked n (In-append_right n seen (n ∷ rest) (inl refl))

  here : watch_of s n ≡ z
  here = all.members n (In-append_right n seen (n ∷ rest) (inl refl))

  -- two watches of different literals differ
  apart : (a b : ℤ) (i j : ℕ) → watch_of s i ≡ a → watch_of s j ≡ b → a ≢ b → i ≢ j
  apart a b i j wi wj d e = d (sym wi ∙ ap (watch_of s) e ∙ wj)

  to_nodes : List ℕ
  to_nodes = (lists to to_literal).nodes

  last_to_out : (y : ℤ) (ns : List ℕ) → IsLiteral s.vars y → y ≢ to → ((k : ℕ) → In k ns → watch_of s k ≡ y) → ¬ In (last_of 0 (lists to to_literal).nodes) ns
  last_to_out y ns is d w i = at (lists to to_literal).nodes (lists to to_literal).watches.members i
    where
      at : (ms : List ℕ) → ((k : ℕ) → In k ms → watch_of s k ≡ to) → In (last_of 0 ms) ns → ⊥
      at [] all_to i = let low = (ws.id 0 (is_watch s y 0 is (w 0 i))).from_one in omega (arith, low)
      at (x ∷ xs) all_to i = d (sym (w (last_of x xs) i) ∙ all_to (last_of x xs) (last_in x xs))

  last_seen_out : (y : ℤ) (ns : List ℕ) → IsLiteral s.vars y → y ≢ z → ((k : ℕ) → In k ns → watch_of s k ≡ y) → ¬ In (last_of 0 seen) ns
  last_seen_out y ns is d w i = at seen (λ k j. all.members k (In-append_left k seen (n ∷ rest) j)) i
    where
      at : (ms : List ℕ) → ((k : ℕ) → In k ms → watch_of s k ≡ z) → In (last_of 0 ms) ns → ⊥
      at [] all_z i = let low = (ws.id 0 (is_watch s y 0 is (w 0 i))).from_one in omega (arith, low)
      at (x ∷ xs) all_z i = d (sym (w (last_of x xs) i) ∙ all_z (last_of x xs) (last_in x xs))

  -- the links of the last store are those before its watches changed
  linked_last : (y : ℤ) (ns : List ℕ) → IsLinked s₂ y ns → IsLinked s₃ y ns
  linked_last y ns l = subst (λ (x : Clauses). IsLinked x y ns) (sym last_rest) (record { chain = l.chain; end = l.end; apart = l.apart })

  members_without : (k : ℕ) → In k (seen ++ rest) → watch_of s k ≡ z
  members_without k i = all.members k (in_with k n seen rest i)

  nodes_z : AreNodes (seen ++ n ∷ rest)
  nodes_z = are_nodes s es done z (seen ++ n ∷ rest) ws z_literal all.members

  nodes_without : AreNodes (seen ++ rest)
  nodes_without = are_nodes s es done z (seen ++ rest) ws z_literal members_without

  z_not_to : z ≢ to
  z_not_to e = ne (sym e)

  pub list_left : IsLinked s₃ z (seen ++ rest)
  list_left = linked_last z (seen ++ rest) (appended_other s₁ s₂ to (last_of 0 (lists to to_literal).nodes) n on z (seen ++ rest) z_not_to nodes_without
      (last_to_out z (seen ++ rest) z_literal z_not_to members_without) (apart_here n seen rest linked.apart)
      (unlinked s s₁ z (last_of 0 seen) (next_of s n) un seen n rest refl refl nodes_z linked))

  pub watches_left : AreWatchesOf s₃ parked z (seen ++ rest)
  watches_left = record {
    members = λ k i. old k (λ e. apart_here n seen rest linked.apart (subst (λ (x : ℕ). In x (seen ++ rest)) e i)) ∙ members_without k i;
    unparked = λ k i. all.unparked k (in_with k n seen rest i);
    complete = λ k w u. elim (cases_eq k n) [
      | inl e ↦ absurd (ne (sym new ∙ ap (watch_of s₃) (sym e) ∙ w))
      | inr d ↦ in_without k n seen rest d (all.complete k (sym (old k d) ∙ w) u)
    ];
  }

  list_to : IsListed s₃ parked to
  list_to =
      let l = lists to to_literal in
      let nodes = are_nodes s es done to l.nodes ws to_literal l.watches.members in
      let out : ¬ In n l.nodes = λ i. ne (sym (l.watches.members n i) ∙ here) in
      record {
        nodes = l.nodes ++ n ∷ [];
        linked = linked_last to (l.nodes ++ n ∷ []) (appended s₁ s₂ to (last_of 0 l.nodes) n on l.nodes refl nodes out
            (unlinked_other s s₁ z (last_of 0 seen) (next_of s n) un to l.nodes ne nodes (last_seen_out to l.nodes to_literal ne l.watches.members) l.linked));
        watches = record {
          members = λ k i. elim (cases_eq k n) [
            | inl e ↦ ap (watch_of s₃) e ∙ new
            | inr d ↦ elim (In-append_cases k l.nodes (n ∷ []) i) [
              | inl j ↦ old k d ∙ l.watches.members k j
              | inr j ↦ elim j [ inl e ↦ absurd (d e) | inr x ↦ absurd x ]
            ]
          ];
          unparked = λ k i. elim (In-append_cases k l.nodes (n ∷ []) i) [
            | inl j ↦ l.watches.unparked k j
            | inr j ↦ elim j [ inl e ↦ ap parked e ∙ hangs | inr x ↦ absurd x ]
          ];
          complete = λ k w u. elim (cases_eq k n) [
            | inl e ↦ In-append_right k l.nodes (n ∷ []) (inl e)
            | inr d ↦ In-append_left k l.nodes (n ∷ []) (l.watches.complete k (sym (old k d) ∙ w) u)
          ];
        };
      }

  list_other : (y : ℤ) → IsLiteral s.vars y → y ≢ z → y ≢ to → IsListed s₃ parked y
  list_other y is dz dt =
      let l = lists y is in
      let nodes = are_nodes s es done y l.nodes ws is l.watches.members in
      let out : ¬ In n l.nodes = λ i. dz (sym (l.watches.members n i) ∙ here) in
      record {
        nodes = l.nodes;
        linked = linked_last y l.nodes (appended_other s₁ s₂ to (last_of 0 (lists to to_literal).nodes) n on y l.nodes dt nodes (last_to_out y l.nodes is dt l.watches.members) out
            (unlinked_other s s₁ z (last_of 0 seen) (next_of s n) un y l.nodes dz nodes (last_seen_out y l.nodes is dz l.watches.members) l.linked));
        watches = record {
          members = λ k i. old k (λ e. out (subst (λ (x : ℕ). In x l.nodes) e i)) ∙ l.watches.members k i;
          unparked = l.watches.unparked;
          complete = λ k w u. elim (cases_eq k n) [
            | inl e ↦ absurd (dt (sym w ∙ ap (watch_of s₃) e ∙ new))
            | inr d ↦ l.watches.complete k (sym (old k d) ∙ w) u
          ];
        };
      }

  pub all_listed : (y : ℤ) → IsLiteral s.vars y → IsListed s₃ parked y
  all_listed y is = elim (cases_literal y z) [
    | inl e ↦ subst (λ (x : ℤ). IsListed s₃ parked x) (sym e) (record { nodes = seen ++ rest; linked = list_left; watches = watches_left })
    | inr dz ↦ elim (cases_literal y to) [
      | inl e ↦ subst (λ (x : ℤ). IsListed s₃ parked x) (sym e) list_to
      | inr dt ↦ list_other y is dz dt
    ]
  ]

  -- and what is ahead follows as before
  pub chain_left : IsChain (next_of s₃) (next_of s n) rest
  chain_left =
      chain_same (next_of s) (next_of s₃) (next_of s n) rest
      (λ k i.
      let some = nodes_without k (In-append_right k seen rest i) in
      let k_some : k ≢ 0 = omega (arith, some) in
      let w = members_without k (In-append_right k seen rest i) in
      let out : k ≢ n = λ e. apart_here n seen rest linked.apart (subst (λ (x : ℕ). In x (seen ++ rest)) e (In-append_right k seen rest i)) in
      let out_to : k ≢ last_of 0 (lists to to_literal).nodes = λ e. last_to_out z (k ∷ []) z_literal z_not_to (λ j h. elim h [ inl f ↦ ap (watch_of s) f ∙ w | inr x ↦ absurd x ]) (inl (sym e)) in
      ap (λ (x : Clauses). next_of x k) last_rest ∙ on.nexts k k_some out_to out ∙ un.nexts k k_some (last_before seen n rest linked.apart nodes_z k i))
      (chain_behind (next_of s) (head_of s z) seen n rest linked.chain)

  -- what is parked stays so, where the other watch of this clause is not
  park_same : (y : ℤ) → park_of s₃ y ≡ park_of s y
  park_same y = ap (λ (x : Clauses). park_of x y) last_rest ∙ ap (λ (x : Clauses). park_of x y) on_rest ∙ ap (λ (x : Clauses). park_of x y) un_rest

  next_parked : (k : ℕ) → parked k ≡ true → 0 < k / 2 → next_of s₃ k ≡ next_of s k
  next_parked k p some =
      let k_some : k ≢ 0 = omega (arith, some) in
      let out : k ≢ n = λ e. false≢true (sym hangs ∙ ap parked (sym e) ∙ p) in
      ap (λ (x : Clauses). next_of x k) last_rest
      ∙ on.nexts k k_some (last_unparked parked (lists to to_literal).nodes k (lists to to_literal).watches.unparked p some) out
      ∙ un.nexts k k_some (last_unparked parked seen k (λ j i. all.unparked j (In-append_left j seen (n ∷ rest) i)) p some)

  pub parked_left : ((k : ℕ) → parked k ≡ true → 0 < k / 2) → ((k : ℕ) → IsPair k n → parked k ≡ true → ⊥) → (y : ℤ) → AreParked s parked y (park_of s y) → AreParked s₃ parked y (park_of s₃ y)
  parked_left some mate y u = record {
    nodes = u.nodes;
    chain = subst (λ (h : ℕ). IsChain (next_of s₃) h u.nodes) (sym (park_same y))
        (chain_same (next_of s) (next_of s₃) (park_of s y) u.nodes (λ k i. let p = (u.members k i).is_parked in next_parked k p (some k p)) u.chain);
    apart = u.apart;
    members = λ k i. let x = u.members k i in record { is_parked = x.is_parked; under = λ j q. old j (λ e. mate k (subst (λ (i : ℕ). IsPair k i) e q) x.is_parked) ∙ x.under j q };
    complete = λ k x. u.complete k (record { is_parked = x.is_parked; under = λ j q. sym (old j (λ e. mate k (subst (λ (i : ℕ). IsPair k i) e q) x.is_parked)) ∙ x.under j q });
  }

  pub clauses_same : s₃.clauses ≡ s.clauses
  clauses_same = ap (λ (x : Clauses). x.clauses) last_rest ∙ ap (λ (x : Clauses). x.clauses) on_rest ∙ ap (λ (x : Clauses). x.clauses) un_rest

  -- ---- the watches

  same_pair : (a b c : ℕ) → IsPair a b → IsPair a c → b ≡ c
  same_pair a b c p q =
      let pe = p.same in
      let pd = p.differ in
      let qe = q.same in
      let qd = q.differ in
      omega (arith, pe, pd, qe, qd)

  flip : (a b : ℕ) → IsPair a b → IsPair b a
  flip a b p = record { same = sym p.same; differ = λ e. p.differ (sym e) }

  pub moved_watches : (trail : IsTrail vars es) → In (neg_ℤ z) (trues es) → (¬ In (neg_ℤ to) (trues es)) → In to (clause_at s.clauses (n / 2)).lits → ((k : ℕ) → IsPair n k → to ≢ watch_of s k) → AreWatches s₃ es done
  moved_watches trail z_false open_to stands differs = record {
    id = λ k w. subst (λ (db : List _). IsId db (k / 2)) (sym clauses_same) (ws.id k (was_watch k w));
    live = λ k w. subst (λ (db : List _). (clause_at db (k / 2)).live ≡ true) (sym clauses_same) (ws.live k (was_watch k w));
    stands = λ k w. subst (λ (db : List _). In (watch_of s₃ k) (clause_at db (k / 2)).lits) (sym clauses_same) (elim (cases_eq k n) [
      | inl e ↦ subst (λ (x : ℕ). In (watch_of s₃ x) (clause_at s.clauses (x / 2)).lits) (sym e) (subst (λ (l : ℤ). In l (clause_at s.clauses (n / 2)).lits) (sym new) stands)
      | inr d ↦ subst (λ (l : ℤ). In l (clause_at s.clauses (k / 2)).lits) (sym (old k d)) (ws.stands k (was_watch k w))
    ]);
    differ = λ a b p w. elim (cases_eq a n) [
      | inl e ↦
          let q : IsPair n b = subst (λ (x : ℕ). IsPair x b) e p in
          let d : b ≢ n = λ f. q.differ (sym f) in
          λ f. differs b q (sym new ∙ ap (watch_of s₃) (sym e) ∙ f ∙ old b d)
      | inr d ↦ elim (cases_eq b n) [
        | inl e ↦
            let q : IsPair n a = flip a n (subst (λ (x : ℕ). IsPair a x) e p) in
            λ f. differs a q (sym new ∙ ap (watch_of s₃) (sym e) ∙ sym f ∙ old a d)
        | inr d' ↦ λ f. ws.differ a b p (was_watch a w) (sym (old a d) ∙ f ∙ old b d')
      ]
    ];
    guarded = λ a b p w was level i. elim (cases_eq a n) [
      | inl e ↦ absurd (open_to (subst (λ (l : ℤ). In (neg_ℤ l) (trues es)) (ap (watch_of s₃) e ∙ new) (lit-keep_in level es (neg_ℤ (watch_of s₃ a)) i)))
      | inr d ↦
          let early : In (neg_ℤ (watch_of s a)) (trues (oldest done es)) = subst (λ (l : ℤ). In (neg_ℤ l) (trues (oldest done es))) (old a d) was in
          let low : In (neg_ℤ (watch_of s a)) (trues (keep level es)) = subst (λ (l : ℤ). In (neg_ℤ l) (trues (keep level es))) (old a d) i in
          let guard = ws.guarded a b p (was_watch a w) early level low in
          elim (cases_eq b n) [
            | inl e ↦
                let z_true : In z (trues es) = lit-keep_in level es z (subst (λ (l : ℤ). In l (trues (keep level es))) (ap (watch_of s) e ∙ here) guard) in
                absurd (trail_consistent vars es trail z z_true z_false)
            | inr d' ↦ subst (λ (l : ℤ). In l (trues (keep level es))) (sym (old b d')) guard
          ]
    ];
  }
