-- Where at most the bound are counted, the clauses are true under values that say of each row and column whether at least so
-- many are counted.
use Rattle.std.proofs.Common.{◌≡◌, ℕ, zero, suc, ◌+◌, ◌<◌, ◌≤◌, min, Bool, true, false, not, ◌||◌, cond, List, [], ◌∷◌, ◌++◌, length, take, refl, sym, ◌∙◌, ap, subst, arith, eqb, ltb, leb, length-append, append_assoc}
use Rattle.std.specs.Prelude.{ℤ, neg_ℤ}
use Rattle.std.specs.List.{list_all, filter}
use Rattle.std.proofs.lemmas.Bool.{cond_both, and_from, or_right, ltb-true, eqb-true, eqb-false, leb-true, le-leb, lt-leb}
use Rattle.std.proofs.lemmas.List.{take_at, take_all}
use Rattle.std.proofs.lemmas.List.Elements.{filter-append}
use Rattle.std.proofs.lemmas.List.Folds.{list_all-append}
use Rattle.std.proofs.lemmas.List.FromFn.{length-range_with_len}
use Rattle.sat_base.specs.Literals.{var_of, literal_true, clause_true}
use Rattle.sat_base.proofs.FollowsLemmas.{literal_true-neg}
use Rattle.gm_base.specs.Sets.{has, all_groups}
use Rattle.gm_base.specs.declared.kind.Kind.{Kind}
use Rattle.gm_base.specs.declared.kind.Kind.TheVariants.{Conflict, Correction}
use Rattle.gm_base.proofs.SetLemmas.{all_groups-has, has-head}
use Rattle.size_counter.proofs.SizeLemmas.{distinct-fit}
use Rattle.size_counter.specs.Counter.{counted, at_least, counter_vars, carried, raised, cell, cells, counter_row, rows_behind, counter, limit, how_many_count, IsOrder}
use Rattle.size_counter.specs.Laws.{ExtendsAssignment}
use Rattle.size_counter.proofs.ValueLemmas.{count_to, extended, length-extended, take-extended, at_least-extended, counted-extended}

-- a clause that says that the one implies the other, and one that says that two do
pub two-true : (values : List Bool) (l m : ℤ) → 0 < var_of l → (literal_true values l ≡ true → literal_true values m ≡ true)
    → clause_true values (neg_ℤ l ∷ m ∷ []) ≡ true
two-true values l m low implies =
    ap (λ b. b || (literal_true values m || false)) (literal_true-neg values l low) ∙ by (literal_true values l) (literal_true values m) implies
  where
    by : (a b : Bool) → (a ≡ true → b ≡ true) → (not a || (b || false)) ≡ true
    by false b h = refl
    by true b h = ap (λ x. x || false) (h refl)

-- where two literals imply a third, the clause of their negations and the third is true
pub three-true : (values : List Bool) (k l m : ℤ) → 0 < var_of k → 0 < var_of l
    → (literal_true values k ≡ true → literal_true values l ≡ true → literal_true values m ≡ true)
    → clause_true values (neg_ℤ k ∷ neg_ℤ l ∷ m ∷ []) ≡ true
three-true values k l m k_low l_low implies =
    ap (λ b. b || (literal_true values (neg_ℤ l) || (literal_true values m || false))) (literal_true-neg values k k_low)
    ∙ ap (λ b. not (literal_true values k) || (b || (literal_true values m || false))) (literal_true-neg values l l_low)
    ∙ by (literal_true values k) (literal_true values l) (literal_true values m) implies
  where
    by : (a b c : Bool) → (a ≡ true → b ≡ true → c ≡ true) → (not a || (not b || (c || false))) ≡ true
    by false b c h = refl
    by true false c h = refl
    by true true c h = ap (λ x. x || false) (h refl refl)

abbrev pub one_if : Bool → ℕ
one_if b = cond b 1 0

-- the values say of each row and column whether at least so many are counted
pub record Says (groups bound most : ℕ) (values : List Bool) (count : ℕ → ℕ) : Type 0 where
  says : (row column : ℕ) → 0 < row → row ≤ most → 0 < column → column ≤ bound + 1
      → literal_true values (at_least groups bound row column) ≡ leb column (count row)

-- in or out, what is counted of a group has the group's variable
var_of-counted : (kind : Kind) (g : ℕ) → var_of (counted kind g) ≡ g
var_of-counted Conflict g = refl
var_of-counted Correction zero = refl
var_of-counted Correction (suc g) = refl

-- groups begin at 1, so what is counted of one is a literal
pub counted-low : (kind : Kind) (g : ℕ) → 0 < g → 0 < var_of (counted kind g)
counted-low kind g low = let is = var_of-counted kind g in omega arith

module _ (groups bound most : ℕ) (values : List Bool) (count : ℕ → ℕ) (s : Says groups bound most values count) where
  -- a count that has at least so many, as the test
  holds : (row column : ℕ) → 0 < row → row ≤ most → 0 < column → column ≤ bound + 1 → column ≤ count row
      → literal_true values (at_least groups bound row column) ≡ true
  holds row column row_low row_high low high le = s.says row column row_low row_high low high ∙ le-leb column (count row) le

  held : (row column : ℕ) → 0 < row → row ≤ most → 0 < column → column ≤ bound + 1
      → literal_true values (at_least groups bound row column) ≡ true → column ≤ count row
  held row column row_low row_high low high t =
      leb-true column (count row) (sym (s.says row column row_low row_high low high) ∙ t)

  cell-true : (rows columns : ℕ) (lit : ℤ) → rows < most → columns ≤ rows → columns ≤ bound → 0 < var_of lit
      → count (rows + 1) ≡ count rows + one_if (literal_true values lit)
      → list_all (clause_true values) (cell groups bound rows columns lit) ≡ true
  cell-true rows columns lit fit under within low rise =
      list_all-append (clause_true values) (carried groups bound rows columns) (raised groups bound rows columns lit ∷ [])
      ∙ and_from (list_all (clause_true values) (carried groups bound rows columns)) (list_all (clause_true values) (raised groups bound rows columns lit ∷ []))
      stays (and_from (clause_true values (raised groups bound rows columns lit)) true more refl)
    where
      stays : list_all (clause_true values) (carried groups bound rows columns) ≡ true
      stays =
          cond_both (ltb columns rows)
          ((neg_ℤ (at_least groups bound rows (columns + 1)) ∷ at_least groups bound (rows + 1) (columns + 1) ∷ []) ∷ []) []
          (λ (clauses : List (List ℤ)). list_all (clause_true values) clauses ≡ true)
          (λ e.
          let before = ltb-true columns rows e in
          and_from (clause_true values (neg_ℤ (at_least groups bound rows (columns + 1)) ∷ at_least groups bound (rows + 1) (columns + 1) ∷ [])) true
          (two-true values (at_least groups bound rows (columns + 1)) (at_least groups bound (rows + 1) (columns + 1)) (omega arith)
          (λ t.
          let had = held rows (columns + 1) (omega arith) (omega arith) (omega arith) (omega arith) t in
          holds (rows + 1) (columns + 1) (omega arith) (omega arith) (omega arith) (omega arith) (omega arith)))
          refl)
          (λ e. refl)

      rises : literal_true values lit ≡ true → count (rows + 1) ≡ count rows + 1
      rises t = rise ∙ ap (λ b. count rows + one_if b) t

      positive : (n : ℕ) → (n ≡ 0 → ⊥) → 0 < n
      positive zero f = absurd (f refl)
      positive (suc n) f = omega arith

      more : clause_true values (raised groups bound rows columns lit) ≡ true
      more =
          cond_both (eqb columns 0)
          (neg_ℤ lit ∷ at_least groups bound (rows + 1) (columns + 1) ∷ [])
          (neg_ℤ lit ∷ neg_ℤ (at_least groups bound rows columns) ∷ at_least groups bound (rows + 1) (columns + 1) ∷ [])
          (λ clause. clause_true values clause ≡ true)
          (λ e.
          let first = eqb-true columns 0 e in
          two-true values lit (at_least groups bound (rows + 1) (columns + 1)) low
          (λ t.
          let one = rises t in
          holds (rows + 1) (columns + 1) (omega arith) (omega arith) (omega arith) (omega arith) (omega arith)))
          (λ e.
          let some : 0 < columns = positive columns (eqb-false columns 0 e) in
          three-true values lit (at_least groups bound rows columns) (at_least groups bound (rows + 1) (columns + 1)) low (omega arith)
          (λ t had.
          let one = rises t in
          let before = held rows columns (omega arith) (omega arith) (omega arith) (omega arith) had in
          holds (rows + 1) (columns + 1) (omega arith) (omega arith) (omega arith) (omega arith) (omega arith)))

  cells-true : (rows : ℕ) (lit : ℤ) (columns : ℕ) → rows < most → columns ≤ rows + 1 → columns ≤ bound + 1 → 0 < var_of lit
      → count (rows + 1) ≡ count rows + one_if (literal_true values lit)
      → list_all (clause_true values) (cells groups bound rows lit columns) ≡ true
  cells-true rows lit zero fit under within low rise = refl
  cells-true rows lit (suc c) fit under within low rise =
      list_all-append (clause_true values) (cells groups bound rows lit c) (cell groups bound rows c lit)
      ∙ and_from (list_all (clause_true values) (cells groups bound rows lit c)) (list_all (clause_true values) (cell groups bound rows c lit))
      (cells-true rows lit c fit (omega arith) (omega arith) low rise)
      (cell-true rows c lit fit (omega arith) (omega arith) low rise)

  -- from row to row the count rises where a group is counted
  abbrev Rises : Kind → ℕ → List ℕ → Type 0
  Rises kind rows [] = Unit {0}
  Rises kind rows (g ∷ gs) =
      (count (rows + 1) ≡ count rows + one_if (literal_true values (counted kind g))) × (0 < g) × Rises kind (rows + 1) gs

  rows-true : (kind : Kind) (rows : ℕ) (gs : List ℕ) → rows + length gs ≤ most → Rises kind rows gs
      → list_all (clause_true values) (rows_behind groups bound kind rows gs) ≡ true
  rows-true kind rows [] fit rises = refl
  rows-true kind rows (g ∷ gs) fit rises =
      let rise = rises.0 in
      list_all-append (clause_true values) (counter_row groups bound rows (counted kind g)) (rows_behind groups bound kind (rows + 1) gs)
      ∙ and_from (list_all (clause_true values) (counter_row groups bound rows (counted kind g)))
      (list_all (clause_true values) (rows_behind groups bound kind (rows + 1) gs))
      (cells-true rows (counted kind g) (min (rows + 1) (bound + 1)) (omega arith) (omega arith) (omega arith) (counted-low kind g rises.1) rise)
      (rows-true kind (rows + 1) gs (omega arith) rises.2)

-- how many are counted, with one group more
pub how_many_count-push : (values : List Bool) (kind : Kind) (gs : List ℕ) (g : ℕ)
    → how_many_count values kind (gs ++ g ∷ []) ≡ how_many_count values kind gs + one_if (literal_true values (counted kind g))
how_many_count-push values kind gs g =
    let test = λ (h : ℕ). literal_true values (counted kind h) in
    let split = ap length (filter-append test gs (g ∷ [])) ∙ length-append (filter test gs) (filter test (g ∷ [])) in
    split ∙ ap (λ n. length (filter test gs) + n) (one (test g))
  where
    one : (b : Bool) → length (cond b (g ∷ []) []) ≡ one_if b
    one true = refl
    one false = refl

-- an order of groups of the problem has no more than there are
pub order_fits : (groups : ℕ) (order : List ℕ) → IsOrder groups order → length order ≤ groups
order_fits groups order o =
    let fit = distinct-fit order (all_groups groups) o.distinct o.within in
    let all = length-range_with_len 1 groups in
    omega arith

module _ (groups bound : ℕ) (assign : List Bool) (kind : Kind) (order : List ℕ) (total : length assign ≡ groups) where
  abbrev all_values : List Bool
  all_values = extended bound assign kind order (length order)

  says-extended : Says groups bound (length order) all_values (count_to assign kind order)
  says-extended =
      record {
        says = λ row column row_low row_high low high.
            at_least-extended groups bound assign kind order total (length order) row column row_low row_high low high;
      }

  rises-behind : (front gs : List ℕ) → order ≡ front ++ gs → ((g : ℕ) → has gs g ≡ true → has (all_groups groups) g ≡ true)
      → Rises groups bound (length order) all_values (count_to assign kind order) says-extended kind (length front) gs
  rises-behind front [] is within = tt
  rises-behind front (g ∷ gs) is within = (rise, range.0, subst at next (rises-behind (front ++ g ∷ []) gs rest later))
    where
      range : (0 < g) × (g ≤ groups)
      range = all_groups-has groups g (within g (has-head g gs))

      rest : order ≡ (front ++ g ∷ []) ++ gs
      rest = is ∙ sym (append_assoc front (g ∷ []) gs)

      next : length (front ++ g ∷ []) ≡ length front + 1
      next = length-append front (g ∷ [])

      at : ℕ → Type 0
      at n = Rises groups bound (length order) all_values (count_to assign kind order) says-extended kind n gs

      later : (h : ℕ) → has gs h ≡ true → has (all_groups groups) h ≡ true
      later h i = within h (or_right (eqb g h) (has gs h) i)

      before : take (length front) order ≡ front
      before = ap (take (length front)) is ∙ take_at front (g ∷ gs) (length front) refl

      behind : take (length front + 1) order ≡ front ++ g ∷ []
      behind = ap (take (length front + 1)) rest ∙ take_at (front ++ g ∷ []) gs (length front + 1) next

      rise : count_to assign kind order (length front + 1)
          ≡ count_to assign kind order (length front) + one_if (literal_true (extended bound assign kind order (length order)) (counted kind g))
      rise =
          ap (how_many_count assign kind) behind ∙ how_many_count-push assign kind front g
          ∙ ap (λ b. how_many_count assign kind front + one_if b) (sym (counted-extended groups bound assign kind order total (length order) g range.0 range.1))
          ∙ ap (λ xs. how_many_count assign kind xs + one_if (literal_true (extended bound assign kind order (length order)) (counted kind g))) (sym before)

  limit-true : how_many_count assign kind order ≤ bound → list_all (literal_true all_values) (limit groups bound order) ≡ true
  limit-true few =
      cond_both (ltb bound (length order)) (neg_ℤ (at_least groups bound (length order) (bound + 1)) ∷ []) []
      (λ lits. list_all (literal_true (extended bound assign kind order (length order))) lits ≡ true)
      (λ e.
      let many = ltb-true bound (length order) e in
      let last = at_least groups bound (length order) (bound + 1) in
      let whole = ap (how_many_count assign kind) (take_all (length order) order (omega arith)) in
      and_from (literal_true (extended bound assign kind order (length order)) (neg_ℤ last)) true
      (literal_true-neg (extended bound assign kind order (length order)) last (omega arith)
      ∙ ap not
      (at_least-extended groups bound assign kind order total (length order) (length order) (bound + 1) (omega arith) (omega arith) (omega arith) (omega arith)
      ∙ lt-leb (bound + 1) (count_to assign kind order (length order)) (omega arith)))
      refl)
      (λ e. refl)

-- each of the counter's variables gets the value of what it says; then all clauses are true, and the limit is
pub few-extend : (groups bound : ℕ) (kind : Kind) (order : List ℕ) (assign : List Bool) → IsOrder groups order
    → length assign ≡ groups → how_many_count assign kind order ≤ bound
    → (values : List Bool)
    × ExtendsAssignment groups (counter_vars groups bound (length order)) (counter groups bound kind order) (limit groups bound order) assign values
few-extend groups bound kind order assign o total few = (
  extended bound assign kind order (length order),
  record {
    total = length-extended groups bound assign kind order total (length order);
    agrees = take-extended groups bound assign kind order total (length order);
    clauses_true =
        rows-true groups bound (length order) (all_values groups bound assign kind order total) (count_to assign kind order)
        (says-extended groups bound assign kind order total) kind 0 order (omega arith)
        (rises-behind groups bound assign kind order total [] order refl o.within);
    limit_true = limit-true groups bound assign kind order total few;
  },
)
