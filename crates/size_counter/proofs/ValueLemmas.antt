-- Values of the counter's variables behind those of the groups, row by row: in each column whether at least as many as it says
-- are counted up to the row. They are looked up by row and column.
use Rattle.std.proofs.Common.{◌≡◌, ℕ, zero, suc, ◌+◌, ◌-◌, ◌*◌, ◌<◌, ◌≤◌, Bool, false, not, List, ◌++◌, map, length, take, get_or, refl, sym, ◌∙◌, ap, inl, inr, arith, leb, length-append}
use Rattle.std.specs.List.{range_with_len}
use Rattle.std.proofs.Math.Nat.{mul-le-mul_left}
use Rattle.std.proofs.lemmas.Bool.{cases_lt}
use Rattle.std.proofs.lemmas.List.{take_all, take-append-le, get_or-append_right, get_or_append_left}
use Rattle.std.proofs.lemmas.List.FromFn.{length-map-range_with_len, get_or-map-range_with_len}
use Rattle.sat_base.specs.Literals.{literal_true}
use Rattle.gm_base.specs.declared.kind.Kind.{Kind}
use Rattle.gm_base.specs.declared.kind.Kind.TheVariants.{Conflict, Correction}
use Rattle.size_counter.specs.Counter.{counted, at_least, how_many_count}

-- how many are counted up to a row
abbrev pub count_to : List Bool → Kind → List ℕ → ℕ → ℕ
count_to assign kind order row = how_many_count assign kind (take row order)

abbrev pub values_in : ℕ → List Bool → Kind → List ℕ → ℕ → List Bool
values_in bound assign kind order row = map (λ column. leb column (count_to assign kind order row)) (range_with_len 1 (bound + 1))

-- the assignment and so many rows
abbrev pub extended : ℕ → List Bool → Kind → List ℕ → ℕ → List Bool
extended bound assign kind order zero = assign
extended bound assign kind order (suc r) = extended bound assign kind order r ++ values_in bound assign kind order (suc r)

module _ (groups bound : ℕ) (assign : List Bool) (kind : Kind) (order : List ℕ) (total : length assign ≡ groups) where
  pub length-extended : (r : ℕ) → length (extended bound assign kind order r) ≡ groups + (bound + 1) * r
  length-extended zero = omega (arith, total)
  length-extended (suc r) =
      let front = length-extended r in
      let row = length-map-range_with_len (λ column. leb column (count_to assign kind order (suc r))) 1 (bound + 1) in
      let more : (bound + 1) * suc r ≡ (bound + 1) * r + (bound + 1) = omega arith in
      length-append (extended bound assign kind order r) (values_in bound assign kind order (suc r)) ∙ (omega arith)

  -- the values of the groups stay
  pub take-extended : (r : ℕ) → take groups (extended bound assign kind order r) ≡ assign
  take-extended zero = take_all groups assign (omega (arith, total))
  take-extended (suc r) =
      let front = length-extended r in
      take-append-le groups (extended bound assign kind order r) (values_in bound assign kind order (suc r)) (omega arith)
      ∙ take-extended r

  pub group-extended : (r v : ℕ) → v < groups → get_or (extended bound assign kind order r) v false ≡ get_or assign v false
  group-extended zero v lt = refl
  group-extended (suc r) v lt =
      let front = length-extended r in
      get_or_append_left (extended bound assign kind order r) (values_in bound assign kind order (suc r)) false v (omega arith)
      ∙ group-extended r v lt

  pub row-extended : (r row column : ℕ) → 0 < row → row ≤ r → 0 < column → column ≤ bound + 1
      → get_or (extended bound assign kind order r) (groups + (bound + 1) * (row - 1) + column - 1) false ≡ leb column (count_to assign kind order row)
  row-extended zero row column row_low row_high low high = absurd (omega arith)
  row-extended (suc r) row column row_low row_high low high =
      let front = length-extended r in
      let f = λ (c : ℕ). leb c (count_to assign kind order (suc r)) in
      elim (cases_lt row (suc r)) [
        | inl before ↦
            let below = mul-le-mul_left (bound + 1) (next row r row_low before) in
            let split : (bound + 1) * (row - 1 + 1) ≡ (bound + 1) * (row - 1) + (bound + 1) = omega arith in
            get_or_append_left (extended bound assign kind order r) (values_in bound assign kind order (suc r)) false (groups + (bound + 1) * (row - 1) + column - 1) (omega arith)
            ∙ row-extended r row column row_low (omega arith) low high
        | inr last ↦
            let same : row - 1 ≡ r = omega arith in
            let is : row ≡ suc r = omega arith in
            let at : (bound + 1) * (row - 1) ≡ (bound + 1) * r = ap (λ n. (bound + 1) * n) same in
            get_or-append_right (extended bound assign kind order r) (map f (range_with_len 1 (bound + 1))) (groups + (bound + 1) * r) (groups + (bound + 1) * (row - 1) + column - 1) false front (omega arith)
            ∙ get_or-map-range_with_len f 1 (bound + 1) (groups + (bound + 1) * (row - 1) + column - 1 - (groups + (bound + 1) * r)) column false (omega arith) (omega arith)
            ∙ ap (λ n. leb column (count_to assign kind order n)) (sym is)
      ]
    where
      next : (row r : ℕ) → 0 < row → row < suc r → row - 1 + 1 ≤ r
      next row r low lt = omega arith

  -- of each row and column the literal says whether at least so many are counted
  pub at_least-extended : (r row column : ℕ) → 0 < row → row ≤ r → 0 < column → column ≤ bound + 1
      → literal_true (extended bound assign kind order r) (at_least groups bound row column) ≡ leb column (count_to assign kind order row)
  at_least-extended r row column row_low row_high low high = row-extended r row column row_low row_high low high

  -- and the literals of the groups are as they were
  pub counted-extended : (r g : ℕ) → 0 < g → g ≤ groups
      → literal_true (extended bound assign kind order r) (counted kind g) ≡ literal_true assign (counted kind g)
  counted-extended r zero low high = absurd (omega arith)
  counted-extended r (suc v) low high = by kind
    where
      by : (k : Kind) → literal_true (extended bound assign kind order r) (counted k (suc v)) ≡ literal_true assign (counted k (suc v))
      by Conflict = group-extended r (suc v - 1) (omega arith)
      by Correction = ap not (group-extended r v (omega arith))
