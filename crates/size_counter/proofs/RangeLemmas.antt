-- The variables of a counter: in range, and each its own.
use Rattle.std.proofs.Common.{◌≡◌, ℕ, zero, suc, ◌+◌, ◌-◌, ◌*◌, ◌<◌, ◌≤◌, min, true, List, [], ◌∷◌, ◌++◌, length, get_or, refl, sym, ap, subst, inl, inr, arith, eqb, ltb}
use Rattle.std.specs.Prelude.{ℤ, pos, negsuc, neg_ℤ, nat_abs}
use Rattle.std.proofs.Math.Nat.{mul-le-mul_left}
use Rattle.std.proofs.lemmas.Bool.{cases_order, cond_both, eqb-false, eq-eqb, ltb-true, or_right}
use Rattle.std.proofs.lemmas.List.Folds.{list_any_at}
use Rattle.sat_base.specs.Members.{In}
use Rattle.sat_base.specs.Literals.{var_of, IsLiteral}
use Rattle.sat_base.proofs.Members.{In-append_cases}
use Rattle.gm_base.specs.Sets.{has, all_groups}
use Rattle.gm_base.specs.declared.kind.Kind.{Kind}
use Rattle.gm_base.specs.declared.kind.Kind.TheVariants.{Conflict, Correction}
use Rattle.gm_base.proofs.SetLemmas.{all_groups-has, has-head}
use Rattle.size_counter.specs.Counter.{counted, at_least, counter_vars, carried, raised, cell, cells, counter_row, rows_behind, counter, IsOrder}
use Rattle.size_counter.specs.Laws.{IsOwnVar}
use Rattle.size_counter.proofs.FewLemmas.{order_fits}

-- a literal and its negation are of one variable
var_of-neg : (l : ℤ) → var_of (neg_ℤ l) ≡ var_of l
var_of-neg (pos zero) = refl
var_of-neg (pos (suc v)) = refl
var_of-neg (negsuc v) = refl

-- so the one is over the variables if the other is
pub literal-neg : (vars : ℕ) (l : ℤ) → IsLiteral vars l → IsLiteral vars (neg_ℤ l)
literal-neg vars l i =
    record {
      not_zero = subst (λ v. 0 < v) (sym (var_of-neg l)) i.not_zero;
      in_range = subst (λ v. v ≤ vars) (sym (var_of-neg l)) i.in_range;
    }

-- the greatest variable of a row is below the first of the next
pub var-within : (groups bound rows row column : ℕ) → 0 < row → row ≤ rows → column ≤ bound + 1
    → groups + (bound + 1) * (row - 1) + column ≤ counter_vars groups bound rows
var-within groups bound rows row column low row_high high =
    let most = mul-le-mul_left (bound + 1) (next row rows low row_high) in
    let last : (bound + 1) * (row - 1 + 1) ≡ (bound + 1) * (row - 1) + (bound + 1) = omega arith in
    omega arith
  where
    next : (row rows : ℕ) → 0 < row → row ≤ rows → row - 1 + 1 ≤ rows
    next row rows low high = omega arith

-- each row that is there and each of its columns has a variable of the counter
pub at_least-literal : (groups bound rows row column : ℕ) → 0 < row → row ≤ rows → 0 < column → column ≤ bound + 1
    → IsLiteral (counter_vars groups bound rows) (at_least groups bound row column)
at_least-literal groups bound rows row column low row_high column_low high =
    record { not_zero = positive; in_range = var-within groups bound rows row column low row_high high }
  where
    positive : 0 < groups + (bound + 1) * (row - 1) + column
    positive = omega arith

-- the variables of the groups are the first ones of the counter
counted-literal : (groups bound rows : ℕ) (kind : Kind) (g : ℕ) → 0 < g → g ≤ groups → IsLiteral (counter_vars groups bound rows) (counted kind g)
counted-literal groups bound rows kind g low high = by kind
  where
    in_form : IsLiteral (counter_vars groups bound rows) (pos g)
    in_form = record { not_zero = low; in_range = omega arith }

    by : (k : Kind) → IsLiteral (counter_vars groups bound rows) (counted k g)
    by Conflict = in_form
    by Correction = literal-neg (counter_vars groups bound rows) (pos g) in_form

-- each literal of the clauses is as it is said
abbrev EachIs : (ℤ → Type 0) → List (List ℤ) → Type 0
EachIs P clauses = (clause : List ℤ) (l : ℤ) → In clause clauses → In l clause → P l

-- of clauses in two parts, if it is so in each
each-append : (P : ℤ → Type 0) (xs ys : List (List ℤ)) → EachIs P xs → EachIs P ys → EachIs P (xs ++ ys)
each-append P xs ys a b clause l i j =
    elim (In-append_cases clause xs ys i) [ inl first ↦ a clause l first j | inr later ↦ b clause l later j ]

-- of one clause, if it is so of its literals
each-single : (P : ℤ → Type 0) (c : List ℤ) → ((l : ℤ) → In l c → P l) → EachIs P (c ∷ [])
each-single P c h clause l (inl e) j = h l (subst (In l) e j)
each-single P c h clause l (inr i) j = absurd i

-- the members of a clause of two literals are these two
two-are : (P : ℤ → Type 0) (k m : ℤ) → P k → P m → (l : ℤ) → In l (k ∷ m ∷ []) → P l
two-are P k m a b l (inl e) = subst P (sym e) a
two-are P k m a b l (inr (inl e)) = subst P (sym e) b
two-are P k m a b l (inr (inr i)) = absurd i

-- and those of a clause of three are the first and these two
three-are : (P : ℤ → Type 0) (k k' m : ℤ) → P k → P k' → P m → (l : ℤ) → In l (k ∷ k' ∷ m ∷ []) → P l
three-are P k k' m a a' b l (inl e) = subst P (sym e) a
three-are P k k' m a a' b l (inr i) = two-are P k' m a' b l i

-- what is so of the variables, of their negations, and of the negation of what is counted
module _ (groups bound most : ℕ) (kind : Kind) (P : ℤ → Type 0)
    (on : (row column : ℕ) → 0 < row → row ≤ most → 0 < column → column ≤ bound + 1 → P (at_least groups bound row column))
    (off : (row column : ℕ) → 0 < row → row ≤ most → 0 < column → column ≤ bound + 1 → P (neg_ℤ (at_least groups bound row column)))
    (out : (g : ℕ) → 0 < g → g ≤ groups → P (neg_ℤ (counted kind g))) where
  cell-each : (rows columns g : ℕ) → rows < most → columns ≤ rows → columns ≤ bound → 0 < g → g ≤ groups
      → EachIs P (cell groups bound rows columns (counted kind g))
  cell-each rows columns g fit under within low high =
      each-append P (carried groups bound rows columns) (raised groups bound rows columns (counted kind g) ∷ []) stays
      (each-single P (raised groups bound rows columns (counted kind g)) more)
    where
      next : P (at_least groups bound (rows + 1) (columns + 1))
      next = on (rows + 1) (columns + 1) (omega arith) (omega arith) (omega arith) (omega arith)

      stays : EachIs P (carried groups bound rows columns)
      stays =
          cond_both (ltb columns rows)
          ((neg_ℤ (at_least groups bound rows (columns + 1)) ∷ at_least groups bound (rows + 1) (columns + 1) ∷ []) ∷ []) []
          (EachIs P)
          (λ e.
          let before = ltb-true columns rows e in
          each-single P (neg_ℤ (at_least groups bound rows (columns + 1)) ∷ at_least groups bound (rows + 1) (columns + 1) ∷ [])
          (two-are P (neg_ℤ (at_least groups bound rows (columns + 1))) (at_least groups bound (rows + 1) (columns + 1))
          (off rows (columns + 1) (omega arith) (omega arith) (omega arith) (omega arith)) next))
          (λ e clause l i j. absurd i)

      positive : (n : ℕ) → (n ≡ 0 → ⊥) → 0 < n
      positive zero f = absurd (f refl)
      positive (suc n) f = omega arith

      more : (l : ℤ) → In l (raised groups bound rows columns (counted kind g)) → P l
      more =
          cond_both (eqb columns 0)
          (neg_ℤ (counted kind g) ∷ at_least groups bound (rows + 1) (columns + 1) ∷ [])
          (neg_ℤ (counted kind g) ∷ neg_ℤ (at_least groups bound rows columns) ∷ at_least groups bound (rows + 1) (columns + 1) ∷ [])
          (λ clause. (l : ℤ) → In l clause → P l)
          (λ e. two-are P (neg_ℤ (counted kind g)) (at_least groups bound (rows + 1) (columns + 1)) (out g low high) next)
          (λ e.
          let some = positive columns (eqb-false columns 0 e) in
          three-are P (neg_ℤ (counted kind g)) (neg_ℤ (at_least groups bound rows columns)) (at_least groups bound (rows + 1) (columns + 1)) (out g low high)
          (off rows columns (omega arith) (omega arith) (omega arith) (omega arith)) next)

  cells-each : (rows g n : ℕ) → rows < most → n ≤ rows + 1 → n ≤ bound + 1 → 0 < g → g ≤ groups
      → EachIs P (cells groups bound rows (counted kind g) n)
  cells-each rows g zero fit under within low high = λ clause l i j. absurd i
  cells-each rows g (suc c) fit under within low high =
      each-append P (cells groups bound rows (counted kind g) c) (cell groups bound rows c (counted kind g))
      (cells-each rows g c fit (omega arith) (omega arith) low high)
      (cell-each rows c g fit (omega arith) (omega arith) low high)

  rows-each : (rows : ℕ) (gs : List ℕ) → rows + length gs ≤ most → ((g : ℕ) → has gs g ≡ true → has (all_groups groups) g ≡ true)
      → EachIs P (rows_behind groups bound kind rows gs)
  rows-each rows [] fit within = λ clause l i j. absurd i
  rows-each rows (g ∷ gs) fit within =
      let range = all_groups-has groups g (within g (has-head g gs)) in
      each-append P (counter_row groups bound rows (counted kind g)) (rows_behind groups bound kind (rows + 1) gs)
      (cells-each rows g (min (rows + 1) (bound + 1)) (omega arith) (omega arith) (omega arith) range.0 range.1)
      (rows-each (rows + 1) gs (omega arith) (λ h i. within h (or_right (eqb g h) (has gs h) i)))

-- a counter has no other literals than these, and all of them are over its variables
pub counter-over : (groups bound : ℕ) (kind : Kind) (order : List ℕ) (clause : List ℤ) (l : ℤ) → IsOrder groups order
    → In clause (counter groups bound kind order) → In l clause → IsLiteral (counter_vars groups bound (length order)) l
counter-over groups bound kind order clause l o i j =
    rows-each groups bound (length order) kind (IsLiteral (counter_vars groups bound (length order)))
    (λ row column low high column_low column_high. at_least-literal groups bound (length order) row column low high column_low column_high)
    (λ row column low high column_low column_high.
    literal-neg (counter_vars groups bound (length order)) (at_least groups bound row column)
    (at_least-literal groups bound (length order) row column low high column_low column_high))
    (λ g low high. literal-neg (counter_vars groups bound (length order)) (counted kind g) (counted-literal groups bound (length order) kind g low high))
    0 order (omega arith) o.within clause l i j

-- of two rows one is a whole number of columns behind the other
apart-below : (groups bound r c row column : ℕ) → 0 < r → c ≤ bound + 1 → 0 < column → r < row
    → groups + (bound + 1) * (r - 1) + c ≡ groups + (bound + 1) * (row - 1) + column → ⊥
apart-below groups bound r c row column r_low high low lt e =
    let more = mul-le-mul_left (bound + 1) (next r row r_low lt) in
    let split : (bound + 1) * (r - 1 + 1) ≡ (bound + 1) * (r - 1) + (bound + 1) = omega arith in
    absurd (omega arith)
  where
    next : (a b : ℕ) → 0 < a → a < b → a - 1 + 1 ≤ b - 1
    next a b low h = omega arith

-- if two have one number, they are of one row, since rows do not overlap, and then of one column
pub vars-apart : (groups bound row column : ℕ) → 0 < row → 0 < column → column ≤ bound + 1 → IsOwnVar groups bound row column
vars-apart groups bound row column low column_low column_high =
    record {
      behind = omega arith;
      own = λ r c r_low c_low c_high same.
          let e : groups + (bound + 1) * (r - 1) + c ≡ groups + (bound + 1) * (row - 1) + column = ap nat_abs same in
          elim (cases_order r row) [
            | inl is ↦ let at : (bound + 1) * (r - 1) ≡ (bound + 1) * (row - 1) = ap (λ n. (bound + 1) * (n - 1)) is in (is, omega arith)
            | inr other ↦
                elim other [
                  | inl below ↦ absurd (apart-below groups bound r c row column r_low c_high column_low below e)
                  | inr above ↦ absurd (apart-below groups bound row column r c low column_high c_low above (sym e))
                ]
          ];
    }

-- the group at a place of an order
pub order-at : (groups : ℕ) (order : List ℕ) (i : ℕ) → IsOrder groups order → i < length order
    → (0 < get_or order i 0) × (get_or order i 0 ≤ groups) × (i < groups)
order-at groups order i o lt =
    let g = get_or order i 0 in
    let fit = order_fits groups order o in
    let range = all_groups-has groups g (o.within g (list_any_at (λ h. eqb h g) order i 0 lt (eq-eqb g g refl))) in
    (range.0, range.1, omega arith)
