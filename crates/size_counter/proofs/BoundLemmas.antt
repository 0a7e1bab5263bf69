-- Values that make the clauses and the limit of a counter true count at most the bound: up to each row, where so many are
-- counted, each column up to that number is true.
use Rattle.std.proofs.Common.{◌≡◌, ℕ, zero, suc, ◌+◌, ◌-◌, ◌<◌, ◌≤◌, min, Bool, true, false, not, ◌||◌, cond, List, [], ◌∷◌, length, refl, sym, ◌∙◌, ap, subst, inl, inr, arith, eqb, ltb}
use Rattle.std.specs.Prelude.{ℤ, neg_ℤ}
use Rattle.std.specs.List.{list_all, filter}
use Rattle.std.proofs.lemmas.Bool.{false≢true, cases_Bool, cases_lt, cases_eq, and_parts, eq-eqb, ne_eqb, lt-ltb, cond-true, cond-false, not-true}
use Rattle.std.proofs.lemmas.List.Folds.{list_all-append}
use Rattle.sat_base.specs.Literals.{var_of, literal_true, clause_true}
use Rattle.sat_base.proofs.FollowsLemmas.{literal_true-neg}
use Rattle.gm_base.specs.Sets.{has, all_groups}
use Rattle.gm_base.specs.declared.kind.Kind.{Kind}
use Rattle.gm_base.proofs.SetLemmas.{all_groups-has, has-head}
use Rattle.std.proofs.lemmas.Bool.{or_right}
use Rattle.size_counter.proofs.SizeLemmas.{length-filter_le}
use Rattle.size_counter.specs.Counter.{counted, at_least, carried, raised, cell, cells, counter_row, rows_behind, counter, limit, how_many_count, IsOrder}
use Rattle.size_counter.proofs.FewLemmas.{one_if, counted-low}

-- where the one is true, so is the other; where two are, so is the third
two-then : (values : List Bool) (l m : ℤ) → 0 < var_of l → clause_true values (neg_ℤ l ∷ m ∷ []) ≡ true
    → literal_true values l ≡ true → literal_true values m ≡ true
two-then values l m low holds t =
    by (literal_true values m)
    (sym (ap (λ b. b || (literal_true values m || false)) (literal_true-neg values l low ∙ ap not t)) ∙ holds)
  where
    by : (b : Bool) → (b || false) ≡ true → b ≡ true
    by true h = refl
    by false h = absurd (false≢true h)

-- the same of a clause with two negations: where both literals are true, so is the third
three-then : (values : List Bool) (k l m : ℤ) → 0 < var_of k → 0 < var_of l
    → clause_true values (neg_ℤ k ∷ neg_ℤ l ∷ m ∷ []) ≡ true
    → literal_true values k ≡ true → literal_true values l ≡ true → literal_true values m ≡ true
three-then values k l m k_low l_low holds s t =
    two-then values l m l_low
    (sym (ap (λ b. b || (literal_true values (neg_ℤ l) || (literal_true values m || false))) (literal_true-neg values k k_low ∙ ap not s)) ∙ holds)
    t

module _ (groups bound : ℕ) (values : List Bool) where
  -- up to a row at least so many are counted, as far as the columns go
  record Reached (rows count : ℕ) : Type 0 where
    few : count ≤ rows
    reached : (column : ℕ) → 0 < column → column ≤ count → column ≤ bound + 1 → literal_true values (at_least groups bound rows column) ≡ true

  cell-in : (rows columns : ℕ) (lit : ℤ) (n : ℕ) → list_all (clause_true values) (cells groups bound rows lit n) ≡ true → columns < n
      → list_all (clause_true values) (cell groups bound rows columns lit) ≡ true
  cell-in rows columns lit zero all lt = absurd (omega arith)
  cell-in rows columns lit (suc n) all lt =
      let parts = and_parts (list_all (clause_true values) (cells groups bound rows lit n)) (list_all (clause_true values) (cell groups bound rows n lit))
      (sym (list_all-append (clause_true values) (cells groups bound rows lit n) (cell groups bound rows n lit)) ∙ all) in
      elim (cases_lt columns n) [
        | inl before ↦ cell-in rows columns lit n parts.0 before
        | inr last ↦
            let same : n ≡ columns = omega arith in
            subst (λ c. list_all (clause_true values) (cell groups bound rows c lit) ≡ true) same parts.1
      ]

  cell-parts : (rows columns : ℕ) (lit : ℤ) → list_all (clause_true values) (cell groups bound rows columns lit) ≡ true
      → (list_all (clause_true values) (carried groups bound rows columns) ≡ true) × (clause_true values (raised groups bound rows columns lit) ≡ true)
  cell-parts rows columns lit all =
      let parts = and_parts (list_all (clause_true values) (carried groups bound rows columns)) (list_all (clause_true values) (raised groups bound rows columns lit ∷ []))
      (sym (list_all-append (clause_true values) (carried groups bound rows columns) (raised groups bound rows columns lit ∷ [])) ∙ all) in
      (parts.0, (and_parts (clause_true values (raised groups bound rows columns lit)) true parts.1).0)

  -- what was counted stays counted
  stays : (rows columns : ℕ) → columns < rows → list_all (clause_true values) (carried groups bound rows columns) ≡ true
      → literal_true values (at_least groups bound rows (columns + 1)) ≡ true
      → literal_true values (at_least groups bound (rows + 1) (columns + 1)) ≡ true
  stays rows columns lt all t =
      let clause = neg_ℤ (at_least groups bound rows (columns + 1)) ∷ at_least groups bound (rows + 1) (columns + 1) ∷ [] in
      let is = cond-true (ltb columns rows) (clause ∷ []) [] (lt-ltb columns rows lt) in
      two-then values (at_least groups bound rows (columns + 1)) (at_least groups bound (rows + 1) (columns + 1)) (omega arith)
      (and_parts (clause_true values clause) true (subst (λ (cs : List (List ℤ)). list_all (clause_true values) cs ≡ true) is all)).0 t

  -- a group that is counted makes one more
  rises : (rows columns : ℕ) (lit : ℤ) → columns ≤ rows → 0 < var_of lit → clause_true values (raised groups bound rows columns lit) ≡ true
      → literal_true values lit ≡ true → (0 < columns → literal_true values (at_least groups bound rows columns) ≡ true)
      → literal_true values (at_least groups bound (rows + 1) (columns + 1)) ≡ true
  rises rows columns lit under low holds t before =
      elim (cases_eq columns 0) [
        | inl none ↦
            two-then values lit (at_least groups bound (rows + 1) (columns + 1)) low
            (subst (λ c. clause_true values c ≡ true) (cond-true (eqb columns 0) first later (eq-eqb columns 0 none)) holds) t
        | inr some ↦
            let positive : 0 < columns = positive_from columns some in
            three-then values lit (at_least groups bound rows columns) (at_least groups bound (rows + 1) (columns + 1)) low (omega arith)
            (subst (λ c. clause_true values c ≡ true) (cond-false (eqb columns 0) first later (ne_eqb columns 0 some)) holds) t (before positive)
      ]
    where
      first : List ℤ
      first = neg_ℤ lit ∷ at_least groups bound (rows + 1) (columns + 1) ∷ []

      later : List ℤ
      later = neg_ℤ lit ∷ neg_ℤ (at_least groups bound rows columns) ∷ at_least groups bound (rows + 1) (columns + 1) ∷ []

      positive_from : (n : ℕ) → (n ≡ 0 → ⊥) → 0 < n
      positive_from zero f = absurd (f refl)
      positive_from (suc n) f = omega arith

  one-small : (b : Bool) → one_if b ≤ 1
  one-small true = omega arith
  one-small false = omega arith

  row-reached : (rows count : ℕ) (lit : ℤ) → 0 < var_of lit → Reached rows count
      → list_all (clause_true values) (counter_row groups bound rows lit) ≡ true
      → Reached (rows + 1) (count + one_if (literal_true values lit))
  row-reached rows count lit low r all =
      record {
        few = let le = r.few in let one = one-small (literal_true values lit) in omega arith;
        reached = λ column column_low column_high within.
            let one = one-small (literal_true values lit) in
            let le = r.few in
            subst (λ n. literal_true values (at_least groups bound (rows + 1) n) ≡ true) (back column column_low)
            (at (column - 1) (omega arith) (omega arith));
      }
    where
      back : (n : ℕ) → 0 < n → n - 1 + 1 ≡ n
      back n lt = omega arith

      at : (columns : ℕ) → columns + 1 ≤ count + one_if (literal_true values lit) → columns ≤ bound
          → literal_true values (at_least groups bound (rows + 1) (columns + 1)) ≡ true
      at columns high within =
          let one = one-small (literal_true values lit) in
          let le = r.few in
          let parts = cell-parts rows columns lit (cell-in rows columns lit (min (rows + 1) (bound + 1)) all (omega arith)) in
          elim (cases_lt columns count) [
            | inl had ↦ stays rows columns (omega arith) parts.0 (r.reached (columns + 1) (omega arith) (omega arith) (omega arith))
            | inr not_had ↦
                elim (cases_Bool (literal_true values lit)) [
                  | inl t ↦
                      let is = ap one_if t in
                      rises rows columns lit (omega arith) low parts.1 t
                      (λ some. r.reached columns some (omega arith) (omega arith))
                  | inr f ↦ absurd (let is : one_if (literal_true values lit) ≡ 0 = ap one_if f in omega arith)
                ]
          ]

  rows-reached : (kind : Kind) (rows count : ℕ) (gs : List ℕ) → ((g : ℕ) → has gs g ≡ true → has (all_groups groups) g ≡ true)
      → Reached rows count → list_all (clause_true values) (rows_behind groups bound kind rows gs) ≡ true
      → Reached (rows + length gs) (count + how_many_count values kind gs)
  rows-reached kind rows count [] within r all =
      subst (λ n. Reached n (count + 0)) (plus_zero rows) (subst (Reached rows) (plus_zero count) r)
    where
      plus_zero : (n : ℕ) → n ≡ n + 0
      plus_zero n = omega arith
  rows-reached kind rows count (g ∷ gs) within r all =
      let lit = counted kind g in
      let range = all_groups-has groups g (within g (has-head g gs)) in
      let parts = and_parts (list_all (clause_true values) (counter_row groups bound rows lit)) (list_all (clause_true values) (rows_behind groups bound kind (rows + 1) gs))
      (sym (list_all-append (clause_true values) (counter_row groups bound rows lit) (rows_behind groups bound kind (rows + 1) gs)) ∙ all) in
      let next = row-reached rows count lit (counted-low kind g range.0) r parts.0 in
      let rest = rows-reached kind (rows + 1) (count + one_if (literal_true values lit)) gs (λ h i. within h (or_right (eqb g h) (has gs h) i)) next parts.1 in
      subst (λ n. Reached n (count + how_many_count values kind (g ∷ gs))) rows_is
      (subst (λ n. Reached (rows + 1 + length gs) n) (counts (literal_true values lit)) rest)
    where
      rows_is : rows + 1 + length gs ≡ rows + length (g ∷ gs)
      rows_is = omega arith

      test : ℕ → Bool
      test h = literal_true values (counted kind h)

      counts : (b : Bool) → count + one_if b + how_many_count values kind gs ≡ count + length (cond b (g ∷ filter (λ h. literal_true values (counted kind h)) gs) (filter (λ h. literal_true values (counted kind h)) gs))
      counts true = omega arith
      counts false = omega arith

-- if more than the bound were counted, the last row would be true in the column above it, which the limit denies
pub extended-few : (groups bound : ℕ) (kind : Kind) (order : List ℕ) (values : List Bool) → IsOrder groups order
    → list_all (clause_true values) (counter groups bound kind order) ≡ true
    → list_all (literal_true values) (limit groups bound order) ≡ true
    → how_many_count values kind order ≤ bound
extended-few groups bound kind order values o all limited =
    let start : Reached groups bound values 0 0 = record { few = omega arith; reached = λ column low high within. absurd (omega arith) } in
    let r = rows-reached groups bound values kind 0 0 order o.within start all in
    let fits = length-filter_le (λ g. literal_true values (counted kind g)) order in
    elim (cases_lt bound (how_many_count values kind order)) [
      | inr few ↦ few
      | inl many ↦
          let last = at_least groups bound (length order) (bound + 1) in
          let is = cond-true (ltb bound (length order)) (neg_ℤ last ∷ []) [] (lt-ltb bound (length order) (omega arith)) in
          let denied = (and_parts (literal_true values (neg_ℤ last)) true (subst (λ lits. list_all (literal_true values) lits ≡ true) is limited)).0 in
          let out = not-true (literal_true values last) (sym (literal_true-neg values last (omega arith)) ∙ denied) in
          let reached = r.reached (bound + 1) (omega arith) (omega arith) (omega arith) in
          absurd (false≢true (sym out ∙ (same (0 + length order) (length order) (omega arith) reached)))
    ]
  where
    same : (m n : ℕ) → m ≡ n → literal_true values (at_least groups bound m (bound + 1)) ≡ true → literal_true values (at_least groups bound n (bound + 1)) ≡ true
    same m n e h = subst (λ r. literal_true values (at_least groups bound r (bound + 1)) ≡ true) e h
