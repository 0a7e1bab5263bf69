-- How a counter grows, and how many clauses it has.
use Rattle.std.proofs.Common.{◌≡◌, ℕ, zero, suc, ◌+◌, ◌-◌, ◌*◌, ◌<◌, min, Bool, true, false, cond, List, [], ◌∷◌, ◌++◌, length, sym, ◌∙◌, ap, subst, inl, inr, arith, ltb, length-append, append_assoc, append-nil, take, get_or}
use Rattle.std.specs.Prelude.{ℤ, neg_ℤ}
use Rattle.std.proofs.lemmas.Bool.{cases_lt, lt-ltb, le-ltb, cond-true, cond-false}
use Rattle.std.proofs.lemmas.List.{length-take-le, take_more}
use Rattle.gm_base.specs.declared.kind.Kind.{Kind}
use Rattle.size_counter.specs.Counter.{counted, at_least, carried, raised, cell, cells, counter_row, rows_behind, counter}

-- the rows of more groups stand behind those of the first ones, and count these as rows before them
pub rows_behind-append : (groups bound : ℕ) (kind : Kind) (rows : ℕ) (front gs : List ℕ)
    → rows_behind groups bound kind rows (front ++ gs) ≡ rows_behind groups bound kind rows front ++ rows_behind groups bound kind (rows + length front) gs
rows_behind-append groups bound kind rows [] gs = ap (λ n. rows_behind groups bound kind n gs) (omega arith)
rows_behind-append groups bound kind rows (g ∷ front) gs =
    let row = counter_row groups bound rows (counted kind g) in
    let at : rows + 1 + length front ≡ rows + length (g ∷ front) = omega arith in
    ap (λ (cs : List (List ℤ)). row ++ cs) (rows_behind-append groups bound kind (rows + 1) front gs)
    ∙ sym (append_assoc row (rows_behind groups bound kind (rows + 1) front) (rows_behind groups bound kind (rows + 1 + length front) gs))
    ∙ ap (λ n. (row ++ rows_behind groups bound kind (rows + 1) front) ++ rows_behind groups bound kind n gs) at

-- the row of a group at the end stands behind those of all others
pub group-row : (groups bound : ℕ) (kind : Kind) (order : List ℕ) (g : ℕ)
    → counter groups bound kind (order ++ g ∷ []) ≡ counter groups bound kind order ++ counter_row groups bound (length order) (counted kind g)
group-row groups bound kind order g =
    rows_behind-append groups bound kind 0 order (g ∷ [])
    ∙ ap (λ n. counter groups bound kind order ++ rows_behind groups bound kind n (g ∷ [])) (zero_plus (length order))
    ∙ ap (λ (cs : List (List ℤ)). counter groups bound kind order ++ cs) (append-nil (counter_row groups bound (length order) (counted kind g)))
  where
    zero_plus : (n : ℕ) → 0 + n ≡ n
    zero_plus n = omega arith

-- a cell has two clauses, but where the column is the row only the one
pub length-cell : (groups bound rows columns : ℕ) (lit : ℤ) → length (cell groups bound rows columns lit) ≡ cond (ltb columns rows) 1 0 + 1
length-cell groups bound rows columns lit =
    length-append (carried groups bound rows columns) (raised groups bound rows columns lit ∷ [])
    ∙ by (ltb columns rows) (neg_ℤ (at_least groups bound rows (columns + 1)) ∷ at_least groups bound (rows + 1) (columns + 1) ∷ []) (raised groups bound rows columns lit)
  where
    by : (b : Bool) (c r : List ℤ) → length (cond b (c ∷ []) []) + length (r ∷ []) ≡ cond b 1 0 + 1
    by true c r = omega arith
    by false c r = omega arith

-- each cell has the clause of its group, and as long as the column is below the row the other one too
pub length-cells : (groups bound rows : ℕ) (lit : ℤ) (n : ℕ) → length (cells groups bound rows lit n) ≡ n + min rows n
length-cells groups bound rows lit zero = omega arith
length-cells groups bound rows lit (suc c) =
    let front = length-cells groups bound rows lit c in
    let last = length-cell groups bound rows c lit in
    let split = length-append (cells groups bound rows lit c) (cell groups bound rows c lit) in
    elim (cases_lt c rows) [
      | inl before ↦ let one = cond-true {A = ℕ} (ltb c rows) 1 0 (lt-ltb c rows before) in omega arith
      | inr at ↦ let none = cond-false {A = ℕ} (ltb c rows) 1 0 (le-ltb c rows at) in omega arith
    ]

-- how many clauses so many rows have
abbrev counter_size : ℕ → ℕ → ℕ
counter_size b rows = 2 * rows * min rows b - min rows b * min rows b

-- with one row more the formula grows by the clauses of that row, in a row of full width as in one below it
size-next : (b rows : ℕ) → 0 < b → 2 * (rows + 1) * min (rows + 1) b + min rows b * min rows b
    ≡ 2 * rows * min rows b + min (rows + 1) b * min (rows + 1) b + (min (rows + 1) b + min rows (min (rows + 1) b))
size-next b rows low =
    elim (cases_lt rows b) [
      | inl below ↦
          let now : min rows b ≡ rows = omega arith in
          let next : min (rows + 1) b ≡ rows + 1 = omega arith in
          let least : min rows (rows + 1) ≡ rows = omega arith in
          rw (now, next, least) (omega arith)
      | inr above ↦
          let now : min rows b ≡ b = omega arith in
          let next : min (rows + 1) b ≡ b = omega arith in
          rw (now, next, now) (omega arith)
    ]

-- behind some rows come as many clauses as the formula has more with all rows than with these
size-from : (groups bound : ℕ) (kind : Kind) (rows : ℕ) (gs : List ℕ)
    → length (rows_behind groups bound kind rows gs) + 2 * rows * min rows (bound + 1) + min (rows + length gs) (bound + 1) * min (rows + length gs) (bound + 1)
    ≡ 2 * (rows + length gs) * min (rows + length gs) (bound + 1) + min rows (bound + 1) * min rows (bound + 1)
size-from groups bound kind rows [] =
    let same : rows + 0 ≡ rows = omega arith in
    rw same (omega arith)
size-from groups bound kind rows (g ∷ gs) =
    let row = length-cells groups bound rows (counted kind g) (min (rows + 1) (bound + 1)) in
    let split = length-append (counter_row groups bound rows (counted kind g)) (rows_behind groups bound kind (rows + 1) gs) in
    let rest = size-from groups bound kind (rows + 1) gs in
    let next = size-next (bound + 1) rows (omega arith) in
    let at : rows + 1 + length gs ≡ rows + length (g ∷ gs) = omega arith in
    join (length (counter_row groups bound rows (counted kind g))) (length (rows_behind groups bound kind (rows + 1) gs)) (rows + length (g ∷ gs)) split row
    (subst (λ n. length (rows_behind groups bound kind (rows + 1) gs) + 2 * (rows + 1) * min (rows + 1) (bound + 1) + min n (bound + 1) * min n (bound + 1)
    ≡ 2 * n * min n (bound + 1) + min (rows + 1) (bound + 1) * min (rows + 1) (bound + 1)) at rest)
    next
  where
    linear : (one more all a nn n2 b c d e : ℕ) → all ≡ one + more → one ≡ e → more + a + nn ≡ n2 + b → a + c ≡ d + b + e → all + d + nn ≡ n2 + c
    linear one more all a nn n2 b c d e p q r s = omega arith

    join : (one more n : ℕ) → length (counter_row groups bound rows (counted kind g) ++ rows_behind groups bound kind (rows + 1) gs) ≡ one + more
        → one ≡ min (rows + 1) (bound + 1) + min rows (min (rows + 1) (bound + 1))
        → more + 2 * (rows + 1) * min (rows + 1) (bound + 1) + min n (bound + 1) * min n (bound + 1)
        ≡ 2 * n * min n (bound + 1) + min (rows + 1) (bound + 1) * min (rows + 1) (bound + 1)
        → 2 * (rows + 1) * min (rows + 1) (bound + 1) + min rows (bound + 1) * min rows (bound + 1)
        ≡ 2 * rows * min rows (bound + 1) + min (rows + 1) (bound + 1) * min (rows + 1) (bound + 1) + (min (rows + 1) (bound + 1) + min rows (min (rows + 1) (bound + 1)))
        → length (counter_row groups bound rows (counted kind g) ++ rows_behind groups bound kind (rows + 1) gs) + 2 * rows * min rows (bound + 1) + min n (bound + 1) * min n (bound + 1)
        ≡ 2 * n * min n (bound + 1) + min rows (bound + 1) * min rows (bound + 1)
    join one more n whole row rest next = linear one more
        (length (counter_row groups bound rows (counted kind g) ++ rows_behind groups bound kind (rows + 1) gs))
        (2 * (rows + 1) * min (rows + 1) (bound + 1)) (min n (bound + 1) * min n (bound + 1)) (2 * n * min n (bound + 1))
        (min (rows + 1) (bound + 1) * min (rows + 1) (bound + 1)) (min rows (bound + 1) * min rows (bound + 1)) (2 * rows * min rows (bound + 1))
        (min (rows + 1) (bound + 1) + min rows (min (rows + 1) (bound + 1))) whole row rest next

-- the same from the first row on, where the formula has nothing before
pub counter-size : (groups bound : ℕ) (kind : Kind) (order : List ℕ)
    → length (counter groups bound kind order) + min (length order) (bound + 1) * min (length order) (bound + 1)
    ≡ 2 * length order * min (length order) (bound + 1)
counter-size groups bound kind order =
    finish (length order) (0 + length order) (zero_plus (length order)) (size-from groups bound kind 0 order)
  where
    zero_plus : (n : ℕ) → 0 + n ≡ n
    zero_plus n = omega arith

    none : min 0 (bound + 1) ≡ 0
    none = omega arith

    linear : (l nn n2 z : ℕ) → z ≡ 0 → l + 2 * 0 * z + nn ≡ n2 + z * z → l + nn ≡ n2
    linear l nn n2 z e h = omega (arith, subst (λ k. l + 2 * 0 * k + nn ≡ n2 + k * k) e h)

    finish : (m n : ℕ) → n ≡ m
        → length (counter groups bound kind order) + 2 * 0 * min 0 (bound + 1) + min n (bound + 1) * min n (bound + 1)
        ≡ 2 * n * min n (bound + 1) + min 0 (bound + 1) * min 0 (bound + 1)
        → length (counter groups bound kind order) + min m (bound + 1) * min m (bound + 1) ≡ 2 * m * min m (bound + 1)
    finish m n e h =
        linear (length (counter groups bound kind order)) (min m (bound + 1) * min m (bound + 1)) (2 * m * min m (bound + 1)) (min 0 (bound + 1)) none
        (subst (λ k. length (counter groups bound kind order) + 2 * 0 * min 0 (bound + 1) + min k (bound + 1) * min k (bound + 1)
        ≡ 2 * k * min k (bound + 1) + min 0 (bound + 1) * min 0 (bound + 1)) e h)

-- the rows of the first groups, with one more
pub counter-next : (groups bound : ℕ) (kind : Kind) (order : List ℕ) (i : ℕ) → i < length order
    → counter groups bound kind (take i order) ++ counter_row groups bound i (counted kind (get_or order i 0)) ≡ counter groups bound kind (take (i + 1) order)
counter-next groups bound kind order i lt =
    let len : length (take i order) ≡ i = length-take-le i order (omega arith) in
    ap (λ n. counter groups bound kind (take i order) ++ counter_row groups bound n (counted kind (get_or order i 0))) (sym len)
    ∙ sym (group-row groups bound kind (take i order) (get_or order i 0))
    ∙ ap (counter groups bound kind) (sym (take_more order i 0 lt))
