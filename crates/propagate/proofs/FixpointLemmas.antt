-- Where all values have been propagated, no live clause is falsified or unit.
use Rattle.std.proofs.Common.{◌≡◌, ◌⊎◌, ℕ, zero, suc, ◌+◌, ◌-◌, ◌*◌, ◌/◌, ◌<◌, List, [], ◌∷◌, length, Option, Some, None, refl, sym, ◌∙◌, ap, subst, inl, inr, arith, true}
use Rattle.std.specs.Prelude.{ℤ, neg_ℤ}
use Rattle.sat_base.specs.Members.{In}
use Rattle.sat_base.specs.Database.{StoredClause}
use Rattle.sat_base.specs.Units.{IsLoose, IsFixpoint, IsFalsified}
use Rattle.clause_store.specs.Clauses.{Clauses, clause_at, IsId}
use Rattle.clause_store.specs.Links.{watched_at, watch_of}
use Rattle.trail_book.specs.declared.entry.Entry.{Entry}
use Rattle.trail_book.specs.Trail.{Trail, trues, top}
use Rattle.trail_book.proofs.TrailLemmas.{keep-whole, lit-keep_in}
use Rattle.trail_book.proofs.PlaceLemmas.{oldest_whole}
use Rattle.propagate.specs.Lists.{IsPair}
use Rattle.propagate.specs.Watches.{IsWatch, IsKept}
use Rattle.propagate.proofs.WalkLemmas.{other_watch}
use Rattle.propagate.proofs.MoveLemmas.{cases_literal}
use Rattle.propagate.proofs.StepLemmas.{falsified_at}

-- a clause of the store has an id
pub id_of_clause : (db : List StoredClause) (c : StoredClause) → In c db → (id : ℕ) × IsId db id × (clause_at db id ≡ c)
id_of_clause [] c i = absurd i
id_of_clause (x ∷ xs) c (inl same) = (1, record { from_one = omega arith; within = omega arith }, sym same)
id_of_clause (x ∷ xs) c (inr later) =
    let y = id_of_clause xs c later in
    let low = y.1.from_one in
    let high = y.1.within in
    (suc y.0, record { from_one = omega arith; within = omega (arith, high) }, behind y.0 low ∙ y.2)
  where
    behind : (id : ℕ) → 0 < id → clause_at (x ∷ xs) (suc id) ≡ clause_at xs id
    behind zero h = absurd (omega (arith, h))
    behind (suc id) h = let e : suc (suc id) - 1 ≡ suc id = omega arith in let f : suc id - 1 ≡ id = omega arith in rw (e, f) refl

cases_in : (x : ℤ) (xs : List ℤ) → In x xs ⊎ (¬ In x xs)
cases_in x [] = inr (λ i. i)
cases_in x (y ∷ ys) = elim (cases_literal x y) [
  | inl e ↦ inl (inl e)
  | inr ne ↦ elim (cases_in x ys) [ inl i ↦ inl (inr i) | inr out ↦ inr (λ i. elim i [ inl e ↦ ne e | inr j ↦ out j ]) ]
]

some_none : (pair : ℤ × ℤ) → ◌≡◌ {A = Option (ℤ × ℤ)} (Some pair) None → ⊥
some_none pair e = cc

module _ (s : Clauses) (t : Trail) (k : IsKept s t) (done : t.done ≡ length t.entries) where
  -- a watched literal that is false has the other true
  guards : (n m : ℕ) → IsPair n m → IsWatch s n → In (neg_ℤ (watch_of s n)) (trues t.entries) → In (watch_of s m) (trues t.entries)
  guards n m p w f =
      let whole = oldest_whole t.entries t.done done in
      let all = keep-whole (top t.entries) t.entries (omega arith) in
      lit-keep_in (top t.entries) t.entries (watch_of s m)
      (k.hung.watches.guarded n m p w (subst (λ (xs : List Entry). In (neg_ℤ (watch_of s n)) (trues xs)) (sym whole) f) (top t.entries) (subst (λ (xs : List Entry). In (neg_ℤ (watch_of s n)) (trues xs)) (sym all) f))

  watched_loose : (id : ℕ) (pair : ℤ × ℤ) → watched_at s id ≡ Some pair → IsId s.clauses id → IsLoose (trues t.entries) (clause_at s.clauses id).lits
  watched_loose id pair is is_id =
      let n = 2 * id in
      let m = 2 * id + 1 in
      let half_n : n / 2 ≡ id = omega arith in
      let half_m : m / 2 ≡ id = omega arith in
      let p : IsPair n m = record { same = omega arith; differ = omega arith } in
      let q : IsPair m n = record { same = omega arith; differ = omega arith } in
      let wn : IsWatch s n = λ e. some_none pair (sym is ∙ ap (watched_at s) (sym half_n) ∙ e) in
      let wm = other_watch s n m p wn in
      let in_n = subst (λ (i : ℕ). In (watch_of s n) (clause_at s.clauses i).lits) half_n (k.hung.watches.stands n wn) in
      let in_m = subst (λ (i : ℕ). In (watch_of s m) (clause_at s.clauses i).lits) half_m (k.hung.watches.stands m wm) in
      elim (cases_in (neg_ℤ (watch_of s n)) (trues t.entries)) [
        | inl f ↦ inl (watch_of s m, in_m, guards n m p wn f)
        | inr open_n ↦ elim (cases_in (neg_ℤ (watch_of s m)) (trues t.entries)) [
          | inl f ↦ inl (watch_of s n, in_n, guards m n q wm f)
          | inr open_m ↦ inr (record { one = watch_of s n; other = watch_of s m; one_in = in_n; other_in = in_m; differ = k.hung.watches.differ n m p wn; one_open = open_n; other_open = open_m })
        ]
      ]

  pub fixpoint : s.false_id ≡ 0 → IsFixpoint s.clauses (trues t.entries)
  fixpoint none clause live =
      let y = id_of_clause s.clauses (record { lits = clause; live = true }) live in
      let id = y.0 in
      let is_live : (clause_at s.clauses id).live ≡ true = ap (λ (c : StoredClause). c.live) y.2 in
      subst (λ (ls : List ℤ). IsLoose (trues t.entries) ls) (ap (λ (c : StoredClause). c.lits) y.2) (at id y.1 is_live (watched_at s id) refl)
    where
      at : (id : ℕ) → IsId s.clauses id → (clause_at s.clauses id).live ≡ true → (w : Option (ℤ × ℤ)) → watched_at s id ≡ w → IsLoose (trues t.entries) (clause_at s.clauses id).lits
      at id is live None idle =
          let low = is.from_one in
          let x = k.settled none id (omega (arith, low)) is live idle in
          inl (x.0, x.1, lit-keep_in 0 t.entries x.0 x.2)
      at id is live (Some pair) e = watched_loose id pair e is

-- the clause that is kept as false
pub false_is_falsified : (s : Clauses) (t : Trail) (id : ℕ) → IsKept s t → id ≡ s.false_id → 0 < id → IsFalsified s.clauses (trues t.entries) id
false_is_falsified s t id k is some =
    let f = k.false_clause (omega (arith, is, some)) in
    subst (λ (i : ℕ). IsFalsified s.clauses (trues t.entries) i) (sym is)
    (falsified_at s.clauses (trues t.entries) s.false_id f.is_id f.live (λ l i. lit-keep_in 0 t.entries (neg_ℤ l) (f.is_false l i)))
