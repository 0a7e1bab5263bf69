-- A clause that comes to the lists of two of its literals.
use Rattle.std.proofs.Common.{◌≡◌, ◌≢◌, ◌⊎◌, ℕ, ◌+◌, ◌-◌, ◌*◌, ◌/◌, ◌<◌, List, [], ◌∷◌, ◌++◌, Option, Some, None, refl, sym, ◌∙◌, ap, subst, inl, inr, arith, true}
use Rattle.std.specs.Prelude.{ℤ, false}
use Rattle.std.proofs.lemmas.Bool.{cases_eq}
use Rattle.sat_base.specs.Members.{In}
use Rattle.sat_base.specs.Literals.{IsLiteral}
use Rattle.sat_base.specs.Database.{StoredClause, AreOver}
use Rattle.sat_base.proofs.Members.{In-append_left, In-append_right, In-append_cases}
use Rattle.sat_base.proofs.DatabaseLemmas.{get_in}
use Rattle.clause_store.specs.Clauses.{Clauses, clause_at, no_clause, IsId}
use Rattle.clause_store.specs.Links.{watched_at, watch_of, next_of, tail_of, park_of}
use Rattle.trail_book.specs.Trail.{Trail, trues}
use Rattle.propagate.specs.Lists.{IsChain, last_of}
use Rattle.propagate.specs.Watches.{IsLinked, IsListed, AreParked, IsGuarded, IsWatch, AreWatches, IsSettled, IsKeptBut, IsKept, KeepsClauses}
use Rattle.propagate.specs.Walk.{IsNode, Appends}
use Rattle.propagate.proofs.ListLemmas.{AreNodes, chain_same, last_in, appended, appended_other, bool_cases, last_unparked}
use Rattle.propagate.proofs.GrowsLemmas.{literal_in}
use Rattle.propagate.proofs.WalkLemmas.{is_watch, node_of_last, are_nodes}
use Rattle.propagate.proofs.MoveLemmas.{cases_literal}
use Rattle.propagate.proofs.StepLemmas.{tail_node, watch_rest, watched_rest, watch_first, watch_second, watch_other}

-- a literal of a clause is over the variables
pub literal_of_clause : (vars : ℕ) (db : List StoredClause) (id : ℕ) (lit : ℤ) → AreOver vars db → IsId db id → In lit (clause_at db id).lits → IsLiteral vars lit
literal_of_clause vars db id lit over is i =
    let low = is.from_one in
    let high = is.within in
    literal_in vars (clause_at db id).lits lit (over (clause_at db id) (get_in db (id - 1) no_clause (omega (arith, low, high)))) i

-- the last watch of the list of a literal
pub last_node : (s : Clauses) (t : Trail) (but : ℕ) (lit : ℤ) (k : IsKeptBut s t but) (is : IsLiteral s.vars lit) → IsNode s lit (tail_of s lit) (last_of 0 (k.hung.listed lit is).nodes)
last_node s t but lit k is =
    let l = k.hung.listed lit is in
    subst (λ (i : ℕ). IsNode s lit i (last_of 0 l.nodes)) (sym l.linked.end) (node_of_last s t.entries t.done lit l.nodes k.hung.watches is l.watches.members)

module _ (s s₁ s₂ s₃ : Clauses) (t : Trail) (id : ℕ) (first second : ℤ) (k : IsKeptBut s t id)
    (is : IsId s.clauses id) (live : (clause_at s.clauses id).live ≡ true) (idle : watched_at s id ≡ None)
    (in_first : In first (clause_at s.clauses id).lits) (in_second : In second (clause_at s.clauses id).lits) (ne : first ≢ second)
    (first_literal : IsLiteral s.vars first) (second_literal : IsLiteral s.vars second)
    (first_guard : IsGuarded t.entries t.done first second) (second_guard : IsGuarded t.entries t.done second first)
    (one : (node : ℕ) → IsNode s first (tail_of s first) node → Appends s s₁ first node (2 * id + 0)) (one_rest : s₁ ≡ record s { nexts = s₁.nexts; heads = s₁.heads; tails = s₁.tails })
    (two : (node : ℕ) → IsNode s₁ second (tail_of s₁ second) node → Appends s₁ s₂ second node (2 * id + 1)) (two_rest : s₂ ≡ record s₁ { nexts = s₂.nexts; heads = s₂.heads; tails = s₂.tails })
    (set : watched_at s₃ id ≡ Some (first, second)) (others : (i : ℕ) → i ≢ id → watched_at s₃ i ≡ watched_at s₂ i) (last_rest : s₃ ≡ record s₂ { watched = s₃.watched }) where
  ws : AreWatches s t.entries t.done
  ws = k.hung.watches

  second_other : second ≢ first
  second_other e = ne (sym e)

  -- the clause was in no list
  out : (n : ℕ) → n / 2 ≡ id → (y : ℤ) (ns : List ℕ) → IsLiteral s.vars y → ((m : ℕ) → In m ns → watch_of s m ≡ y) → ¬ In n ns
  out n half y ns y_literal w i = is_watch s y n y_literal (w n i) (ap (watched_at s) half ∙ idle)

  last_out : (z : ℤ) (z_literal : IsLiteral s.vars z) (y : ℤ) (ns : List ℕ) → IsLiteral s.vars y → y ≢ z → ((m : ℕ) → In m ns → watch_of s m ≡ y) → ¬ In (last_of 0 (k.hung.listed z z_literal).nodes) ns
  last_out z z_literal y ns y_literal d w i = at (k.hung.listed z z_literal).nodes (k.hung.listed z z_literal).watches.members i
    where
      at : (ms : List ℕ) → ((m : ℕ) → In m ms → watch_of s m ≡ z) → In (last_of 0 ms) ns → ⊥
      at [] all_z i = let low = (ws.id 0 (is_watch s y 0 y_literal (w 0 i))).from_one in omega (arith, low)
      at (x ∷ xs) all_z i = d (sym (w (last_of x xs) i) ∙ all_z (last_of x xs) (last_in x xs))

  a1 : Appends s s₁ first (last_of 0 (k.hung.listed first first_literal).nodes) (2 * id + 0)
  a1 = one (last_of 0 (k.hung.listed first first_literal).nodes) (last_node s t id first k first_literal)

  a2 : Appends s₁ s₂ second (last_of 0 (k.hung.listed second second_literal).nodes) (2 * id + 1)
  a2 = two (last_of 0 (k.hung.listed second second_literal).nodes) (tail_node s s₁ t id first second k second_literal second_other a1.tails one_rest)

  linked_last : (y : ℤ) (ns : List ℕ) → IsLinked s₂ y ns → IsLinked s₃ y ns
  linked_last y ns l = subst (λ (x : Clauses). IsLinked x y ns) (sym last_rest) (record { chain = l.chain; end = l.end; apart = l.apart })

  new_first : (n : ℕ) → n ≡ 2 * id → watch_of s₃ n ≡ first
  new_first n e = watch_first s₂ s₃ id (first, second) set others n e

  new_second : (n : ℕ) → n ≡ 2 * id + 1 → watch_of s₃ n ≡ second
  new_second n e = watch_second s₂ s₃ id (first, second) set others n e

  old : (n : ℕ) → n / 2 ≢ id → watch_of s₃ n ≡ watch_of s n
  old n far = watch_other s₂ s₃ id (first, second) set others n far ∙ watch_rest s₁ s₂ n two_rest ∙ watch_rest s s₁ n one_rest

  some_id : 0 < id
  some_id = is.from_one

  -- neither was it parked
  idle_hangs : (n : ℕ) → n / 2 ≡ id → k.hung.parked n ≡ false
  idle_hangs n half = elim (bool_cases (k.hung.parked n)) [
    | inl p ↦ absurd (k.hung.parked_watch n p (ap (watched_at s) half ∙ idle))
    | inr f ↦ f
  ]

  parked_far : (n : ℕ) → k.hung.parked n ≡ true → n / 2 ≢ id
  parked_far n p half = k.hung.parked_watch n p (ap (watched_at s) half ∙ idle)

  list_first : IsListed s₃ k.hung.parked first
  list_first =
      let l = k.hung.listed first first_literal in
      let nodes = are_nodes s t.entries t.done first l.nodes ws first_literal l.watches.members in
      let a = 2 * id + 0 in
      let half_a : a / 2 ≡ id = omega arith in
      let here : IsLinked s₁ first (l.nodes ++ a ∷ []) = appended s s₁ first (last_of 0 l.nodes) a a1 l.nodes refl nodes (out a half_a first l.nodes first_literal l.watches.members) l.linked in
      let some = some_id in
      let all_nodes : AreNodes (l.nodes ++ a ∷ []) = λ m i. elim (In-append_cases m l.nodes (a ∷ []) i) [
        | inl j ↦ nodes m j
        | inr j ↦ elim j [ inl e ↦ omega (arith, e, half_a, some) | inr x ↦ absurd x ]
      ] in
      let last = last_of 0 (k.hung.listed second second_literal).nodes in
      let last_away : ¬ In last (l.nodes ++ a ∷ []) = λ i. elim (In-append_cases last l.nodes (a ∷ []) i) [
        | inl j ↦ last_out second second_literal first l.nodes first_literal ne l.watches.members j
        | inr j ↦ elim j [
          | inl e ↦ not_last second second_literal a half_a e
          | inr x ↦ absurd x
        ]
      ] in
      let b_away : ¬ In (2 * id + 1) (l.nodes ++ a ∷ []) = λ i. elim (In-append_cases (2 * id + 1) l.nodes (a ∷ []) i) [
        | inl j ↦ out (2 * id + 1) (omega arith) first l.nodes first_literal l.watches.members j
        | inr j ↦ elim j [ inl e ↦ omega (arith, e) | inr x ↦ absurd x ]
      ] in
      record {
        nodes = l.nodes ++ a ∷ [];
        linked = linked_last first (l.nodes ++ a ∷ []) (appended_other s₁ s₂ second last (2 * id + 1) a2 first (l.nodes ++ a ∷ []) ne all_nodes last_away b_away here);
        watches = record {
          members = λ m i. elim (In-append_cases m l.nodes (a ∷ []) i) [
            | inl j ↦ old m (λ e. out m e first l.nodes first_literal l.watches.members j) ∙ l.watches.members m j
            | inr j ↦ elim j [ inl e ↦ new_first m (omega (arith, e)) | inr x ↦ absurd x ]
          ];
          unparked = λ m i. elim (In-append_cases m l.nodes (a ∷ []) i) [
            | inl j ↦ l.watches.unparked m j
            | inr j ↦ elim j [ inl e ↦ idle_hangs m (omega (arith, e)) | inr x ↦ absurd x ]
          ];
          complete = λ m w u. elim (cases_eq (m / 2) id) [
            | inl half_m ↦ elim (cases_eq m (2 * id)) [
              | inl e ↦ In-append_right m l.nodes (a ∷ []) (inl (omega (arith, e)))
              | inr d ↦ absurd (ne (sym w ∙ new_second m (omega (arith, half_m, d))))
            ]
            | inr far ↦ In-append_left m l.nodes (a ∷ []) (l.watches.complete m (sym (old m far) ∙ w) u)
          ];
        };
      }
    where
      not_last : (z : ℤ) (z_literal : IsLiteral s.vars z) (n : ℕ) → n / 2 ≡ id → last_of 0 (k.hung.listed z z_literal).nodes ≡ n → ⊥
      not_last z z_literal n half e = at (k.hung.listed z z_literal).nodes (k.hung.listed z z_literal).watches.members e
        where
          at : (ms : List ℕ) → ((m : ℕ) → In m ms → watch_of s m ≡ z) → last_of 0 ms ≡ n → ⊥
          at [] all_z e = let some = some_id in omega (arith, e, half, some)
          at (x ∷ xs) all_z e = out n half z (x ∷ xs) z_literal all_z (subst (λ (j : ℕ). In j (x ∷ xs)) e (last_in x xs))

  list_second : IsListed s₃ k.hung.parked second
  list_second =
      let l = k.hung.listed second second_literal in
      let nodes = are_nodes s t.entries t.done second l.nodes ws second_literal l.watches.members in
      let b = 2 * id + 1 in
      let half_b : b / 2 ≡ id = omega arith in
      let here : IsLinked s₁ second l.nodes = appended_other s s₁ first (last_of 0 (k.hung.listed first first_literal).nodes) (2 * id + 0) a1 second l.nodes second_other nodes
      (last_out first first_literal second l.nodes second_literal second_other l.watches.members) (out (2 * id + 0) (omega arith) second l.nodes second_literal l.watches.members) l.linked
      in
      record {
        nodes = l.nodes ++ b ∷ [];
        linked = linked_last second (l.nodes ++ b ∷ []) (appended s₁ s₂ second (last_of 0 l.nodes) b a2 l.nodes refl nodes (out b half_b second l.nodes second_literal l.watches.members) here);
        watches = record {
          members = λ m i. elim (In-append_cases m l.nodes (b ∷ []) i) [
            | inl j ↦ old m (λ e. out m e second l.nodes second_literal l.watches.members j) ∙ l.watches.members m j
            | inr j ↦ elim j [ inl e ↦ new_second m (omega (arith, e)) | inr x ↦ absurd x ]
          ];
          unparked = λ m i. elim (In-append_cases m l.nodes (b ∷ []) i) [
            | inl j ↦ l.watches.unparked m j
            | inr j ↦ elim j [ inl e ↦ idle_hangs m (omega (arith, e)) | inr x ↦ absurd x ]
          ];
          complete = λ m w u. elim (cases_eq (m / 2) id) [
            | inl half_m ↦ elim (cases_eq m (2 * id)) [
              | inl e ↦ absurd (ne (sym (new_first m e) ∙ w))
              | inr d ↦ In-append_right m l.nodes (b ∷ []) (inl (omega (arith, half_m, d)))
            ]
            | inr far ↦ In-append_left m l.nodes (b ∷ []) (l.watches.complete m (sym (old m far) ∙ w) u)
          ];
        };
      }

  list_other : (y : ℤ) → IsLiteral s.vars y → y ≢ first → y ≢ second → IsListed s₃ k.hung.parked y
  list_other y y_literal df ds =
      let l = k.hung.listed y y_literal in
      let nodes = are_nodes s t.entries t.done y l.nodes ws y_literal l.watches.members in
      let here : IsLinked s₁ y l.nodes = appended_other s s₁ first (last_of 0 (k.hung.listed first first_literal).nodes) (2 * id + 0) a1 y l.nodes df nodes
      (last_out first first_literal y l.nodes y_literal df l.watches.members) (out (2 * id + 0) (omega arith) y l.nodes y_literal l.watches.members) l.linked
      in
      record {
        nodes = l.nodes;
        linked = linked_last y l.nodes (appended_other s₁ s₂ second (last_of 0 (k.hung.listed second second_literal).nodes) (2 * id + 1) a2 y l.nodes ds nodes
            (last_out second second_literal y l.nodes y_literal ds l.watches.members) (out (2 * id + 1) (omega arith) y l.nodes y_literal l.watches.members) here);
        watches = record {
          members = λ m i. old m (λ e. out m e y l.nodes y_literal l.watches.members i) ∙ l.watches.members m i;
          unparked = l.watches.unparked;
          complete = λ m w u. elim (cases_eq (m / 2) id) [
            | inl half_m ↦ elim (cases_eq m (2 * id)) [
              | inl e ↦ absurd (df (sym w ∙ new_first m e))
              | inr d ↦ absurd (ds (sym w ∙ new_second m (omega (arith, half_m, d))))
            ]
            | inr far ↦ l.watches.complete m (sym (old m far) ∙ w) u
          ];
        };
      }

  clauses_are : s₃.clauses ≡ s.clauses
  clauses_are = ap (λ (x : Clauses). x.clauses) last_rest ∙ ap (λ (x : Clauses). x.clauses) two_rest ∙ ap (λ (x : Clauses). x.clauses) one_rest

  vars_are : s₃.vars ≡ s.vars
  vars_are = ap (λ (x : Clauses). x.vars) last_rest ∙ ap (λ (x : Clauses). x.vars) two_rest ∙ ap (λ (x : Clauses). x.vars) one_rest

  false_id_is : s₃.false_id ≡ s.false_id
  false_id_is = ap (λ (x : Clauses). x.false_id) last_rest ∙ ap (λ (x : Clauses). x.false_id) two_rest ∙ ap (λ (x : Clauses). x.false_id) one_rest

  pub entered_keeps : KeepsClauses s s₃
  entered_keeps = record { vars = vars_are; clauses = clauses_are; false_id = false_id_is; room = ap (λ (x : Clauses). x.room) last_rest ∙ ap (λ (x : Clauses). x.room) two_rest ∙ ap (λ (x : Clauses). x.room) one_rest; literal_room = ap (λ (x : Clauses). x.literal_room) last_rest ∙ ap (λ (x : Clauses). x.literal_room) two_rest ∙ ap (λ (x : Clauses). x.literal_room) one_rest }

  was_watch : (n : ℕ) → n / 2 ≢ id → IsWatch s₃ n → IsWatch s n
  was_watch n far w e = w (others (n / 2) far ∙ watched_rest s s₁ s₂ (n / 2) one_rest two_rest ∙ e)

  -- both watches of the new clause
  either : (n : ℕ) → n / 2 ≡ id → (n ≡ 2 * id) ⊎ (n ≡ 2 * id + 1)
  either n half = elim (cases_eq n (2 * id)) [ inl e ↦ inl e | inr d ↦ inr (omega (arith, half, d)) ]

  new_watches : AreWatches s₃ t.entries t.done
  new_watches = record {
    id = λ n w. subst (λ (db : List StoredClause). IsId db (n / 2)) (sym clauses_are) (elim (cases_eq (n / 2) id) [
      | inl half ↦ subst (λ (i : ℕ). IsId s.clauses i) (sym half) is
      | inr far ↦ ws.id n (was_watch n far w)
    ]);
    live = λ n w. subst (λ (db : List StoredClause). (clause_at db (n / 2)).live ≡ true) (sym clauses_are) (elim (cases_eq (n / 2) id) [
      | inl half ↦ subst (λ (i : ℕ). (clause_at s.clauses i).live ≡ true) (sym half) live
      | inr far ↦ ws.live n (was_watch n far w)
    ]);
    stands = λ n w. subst (λ (db : List StoredClause). In (watch_of s₃ n) (clause_at db (n / 2)).lits) (sym clauses_are) (elim (cases_eq (n / 2) id) [
      | inl half ↦ subst (λ (i : ℕ). In (watch_of s₃ n) (clause_at s.clauses i).lits) (sym half) (elim (either n half) [
        | inl e ↦ subst (λ (l : ℤ). In l (clause_at s.clauses id).lits) (sym (new_first n e)) in_first
        | inr e ↦ subst (λ (l : ℤ). In l (clause_at s.clauses id).lits) (sym (new_second n e)) in_second
      ])
      | inr far ↦ subst (λ (l : ℤ). In l (clause_at s.clauses (n / 2)).lits) (sym (old n far)) (ws.stands n (was_watch n far w))
    ]);
    differ = λ n m p w. elim (cases_eq (n / 2) id) [
      | inl half ↦
          let same = p.same in
          let d = p.differ in
          elim (either n half) [
            | inl e ↦ λ f. ne (sym (new_first n e) ∙ f ∙ new_second m (omega (arith, same, d, e)))
            | inr e ↦ λ f. ne (sym (new_first m (omega (arith, same, d, e))) ∙ sym f ∙ new_second n e)
          ]
      | inr far ↦ λ f. ws.differ n m p (was_watch n far w) (sym (old n far) ∙ f ∙ old m (λ e. far (p.same ∙ e)))
    ];
    guarded = λ n m p w. elim (cases_eq (n / 2) id) [
      | inl half ↦
          let same = p.same in
          let d = p.differ in
          elim (either n half) [
            | inl e ↦ rw (new_first n e, new_second m (omega (arith, same, d, e))) first_guard
            | inr e ↦ rw (new_second n e, new_first m (omega (arith, same, d, e))) second_guard
          ]
      | inr far ↦ rw (old n far, old m (λ e. far (p.same ∙ e))) (ws.guarded n m p (was_watch n far w))
    ];
  }

  none_some : ◌≡◌ {A = Option (ℤ × ℤ)} (Some (first, second)) None → ⊥
  none_some e = cc

  is_still : (n : ℕ) → IsWatch s n → IsWatch s₃ n
  is_still n w e = elim (cases_eq (n / 2) id) [
    | inl half ↦ none_some (sym set ∙ ap (watched_at s₃) (sym half) ∙ e)
    | inr far ↦ w (sym (watched_rest s s₁ s₂ (n / 2) one_rest two_rest) ∙ sym (others (n / 2) far) ∙ e)
  ]

  next_parked : (n : ℕ) → k.hung.parked n ≡ true → next_of s₃ n ≡ next_of s n
  next_parked n p =
      let low = (ws.id n (k.hung.parked_watch n p)).from_one in
      let some : n ≢ 0 = omega (arith, low) in
      let far = parked_far n p in
      let not_first : n ≢ 2 * id + 0 = λ e. far (omega (arith, e)) in
      let not_second : n ≢ 2 * id + 1 = λ e. far (omega (arith, e)) in
      ap (λ (x : Clauses). next_of x n) last_rest
      ∙ a2.nexts n some (last_unparked k.hung.parked (k.hung.listed second second_literal).nodes n (k.hung.listed second second_literal).watches.unparked p low) not_second
      ∙ a1.nexts n some (last_unparked k.hung.parked (k.hung.listed first first_literal).nodes n (k.hung.listed first first_literal).watches.unparked p low) not_first

  park_same : (y : ℤ) → park_of s₃ y ≡ park_of s y
  park_same y = ap (λ (x : Clauses). park_of x y) last_rest ∙ ap (λ (x : Clauses). park_of x y) two_rest ∙ ap (λ (x : Clauses). park_of x y) one_rest

  parked_same : (y : ℤ) → AreParked s k.hung.parked y (park_of s y) → AreParked s₃ k.hung.parked y (park_of s₃ y)
  parked_same y u = record {
    nodes = u.nodes;
    chain = subst (λ (h : ℕ). IsChain (next_of s₃) h u.nodes) (sym (park_same y)) (chain_same (next_of s) (next_of s₃) (park_of s y) u.nodes (λ n i. next_parked n (u.members n i).is_parked) u.chain);
    apart = u.apart;
    members = λ n i. let x = u.members n i in record { is_parked = x.is_parked; under = λ m p. old m (λ e. parked_far n x.is_parked (p.same ∙ e)) ∙ x.under m p };
    complete = λ n x. u.complete n (record { is_parked = x.is_parked; under = λ m p. sym (old m (λ e. parked_far n x.is_parked (p.same ∙ e))) ∙ x.under m p });
  }

  pub entered : IsKept s₃ t
  entered = record {
    vars = vars_are ∙ k.vars;
    done = k.done;
    fresh = k.fresh;
    hung = record {
      parked = k.hung.parked;
      listed = λ y y_lit. let y_literal = subst (λ (v : ℕ). IsLiteral v y) vars_are y_lit in elim (cases_literal y first) [
        | inl e ↦ subst (λ (x : ℤ). IsListed s₃ k.hung.parked x) (sym e) list_first
        | inr df ↦ elim (cases_literal y second) [
          | inl e ↦ subst (λ (x : ℤ). IsListed s₃ k.hung.parked x) (sym e) list_second
          | inr ds ↦ list_other y y_literal df ds
        ]
      ];
      under = λ y y_lit. parked_same y (k.hung.under y (subst (λ (v : ℕ). IsLiteral v y) vars_are y_lit));
      satisfied = λ n m p q. subst (λ (l : ℤ). In l (trues t.entries)) (sym (old m (λ e. parked_far n p (q.same ∙ e)))) (k.hung.satisfied n m p q);
      parked_watch = λ n p. is_still n (k.hung.parked_watch n p);
      watches = new_watches;
    };
    settled = λ none i some i_is i_live i_idle. elim (cases_eq i id) [
      | inl e ↦ absurd (none_some (sym set ∙ ap (watched_at s₃) (sym e) ∙ i_idle))
      | inr far ↦ subst (λ (db : List StoredClause). IsSettled db t.entries i) (sym clauses_are) (k.settled (sym false_id_is ∙ none) i far (subst (λ (db : List StoredClause). IsId db i) clauses_are i_is)
          (ap (λ (db : List StoredClause). (clause_at db i).live) (sym clauses_are) ∙ i_live) (sym (watched_rest s s₁ s₂ i one_rest two_rest) ∙ sym (others i far) ∙ i_idle))
    ];
    false_clause = λ any. rw (clauses_are, false_id_is) (k.false_clause (λ e. any (false_id_is ∙ e)));
  }
