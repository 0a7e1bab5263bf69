-- Where the clauses of a counter stand: before a row those of the rows before it, and in it before a cell those of the cells
-- before it.
use Rattle.std.proofs.Common.{◌≡◌, ℕ, zero, suc, ◌+◌, ◌-◌, ◌*◌, ◌/◌, ◌%◌, ◌<◌, ◌≤◌, min, true, false, ◌&&◌, Some, List, [], ◌∷◌, ◌++◌, length, take, drop, get_or, refl, sym, ◌∙◌, ap, subst, inl, inr, arith, eqb, ltb, leb, length-append, append_assoc, append-nil}
use Rattle.std.specs.Prelude.{ℤ, neg_ℤ, slice_get}
use Rattle.std.proofs.Math.Nat.{mul-le-mul_left, div-add-mod, mod-lt}
use Rattle.std.proofs.Math.Seq.{drop-cons}
use Rattle.std.proofs.lemmas.Bool.{false≢true, cases_Bool, cases_lt, cond-true, cond-false, and_parts, lt-ltb, le-ltb, le-leb, lt-leb, eqb-true, eqb-false}
use Rattle.std.proofs.lemmas.Nat.{mul-le}
use Rattle.std.proofs.lemmas.List.{take-append-drop, length-take-le, get_or_append_left, get_or-append-add}
use Rattle.std.proofs.lemmas.Option.{slice_get-get_or}
use Rattle.gm_base.specs.declared.kind.Kind.{Kind}
use Rattle.size_counter.specs.Counter.{counted, at_least, raised, cell, cells, counter_row, rows_behind, counter}
use Rattle.size_counter.specs.Places.{rows_len, IsPlace}
use Rattle.size_counter.specs.declared.place.Place.{Place}
use Rattle.size_counter.proofs.GrowthLemmas.{rows_behind-append, length-cell, length-cells, counter-size}

-- how many clauses there are, without what is subtracted
pub area : (wide rows : ℕ) → wide ≤ rows → wide * (2 * rows - wide) + wide * wide ≡ 2 * rows * wide
area wide rows le =
    let split : 2 * rows - wide ≡ wide + 2 * (rows - wide) = omega arith in
    let whole : rows ≡ wide + (rows - wide) = omega arith in
    rw split (by (rows - wide) whole)
  where
    by : (d : ℕ) → rows ≡ wide + d → wide * (wide + 2 * d) + wide * wide ≡ 2 * rows * wide
    by d is = rw is (omega arith)

-- a product of 33 bits by 32 that has room in 64, since it is no more than the square of the rows
pub area-small : (wide rows : ℕ) → wide ≤ rows → rows < 4294967296 → wide * (2 * rows - wide) < 18446744073709551616
area-small wide rows le small =
    let is = area wide rows le in
    let most = mul-le rows rows 4294967295 4294967295 (omega arith) (omega arith) in
    let whole : rows ≡ wide + (rows - wide) = omega arith in
    let square = by (rows - wide) whole in
    omega arith
  where
    by : (d : ℕ) → rows ≡ wide + d → 2 * rows * wide ≤ rows * rows + wide * wide
    by d is = rw is (omega arith)

-- of a clause behind the wide rows: they are fewer than all, and its row is one of all
wide-below : (rows at wide : ℕ) → wide ≤ rows → wide * wide ≤ at → at + wide * wide < 2 * rows * wide → wide < rows
wide-below rows at wide le from within =
    elim (cases_lt wide rows) [ inl lt ↦ lt | inr all ↦ absurd (whole rows (omega arith) within) ]
  where
    whole : (r : ℕ) → r ≡ wide → at + wide * wide < 2 * r * wide → ⊥
    whole r e lt = absurd (omega (arith, subst (λ n. at + wide * wide < 2 * n * wide) e lt))

-- if the quotient went past the last row, the clause would stand behind all of them
pub row-below : (rows at wide : ℕ) → wide ≤ rows → wide * wide ≤ at → at + wide * wide < 2 * rows * wide
    → wide + (at - wide * wide) / (2 * wide) < rows
row-below rows at wide le from within =
    let split = div-add-mod (at - wide * wide) (2 * wide) in
    let q = (at - wide * wide) / (2 * wide) in
    elim (cases_lt q (rows - wide)) [
      | inl lt ↦ omega arith
      | inr many ↦
          let most = mul-le-mul_left (2 * wide) many in
          let rows_are : rows ≡ wide + (rows - wide) = omega arith in
          let whole = expand (rows - wide) rows_are in
          absurd (omega arith)
    ]
  where
    expand : (d : ℕ) → rows ≡ wide + d → 2 * rows * wide ≡ 2 * (wide * wide) + 2 * wide * d
    expand d e = rw e (omega arith)

-- a clause behind the wide rows stands in a row of two clauses a column
pub place-behind : (bound rows at wide : ℕ) (place : Place) → wide ≡ min rows (bound + 1) → wide * wide ≤ at
    → at + wide * wide < 2 * rows * wide
    → place.rows ≡ wide + (at - wide * wide) / (2 * wide)
    → place.columns ≡ (at - wide * wide) % (2 * wide) / 2
    → place.carries ≡ (eqb ((at - wide * wide) % (2 * wide) % 2) 0 && ltb ((at - wide * wide) % (2 * wide) / 2) (wide + (at - wide * wide) / (2 * wide)))
    → IsPlace bound rows at place
place-behind bound rows at wide place is from within row column carries =
    by (at - wide * wide) ((at - wide * wide) / (2 * wide)) ((at - wide * wide) % (2 * wide)) refl fits
    (div-add-mod (at - wide * wide) (2 * wide)) (mod-lt (at - wide * wide) twice) row column carries
  where
    below : wide < rows
    below = wide-below rows at wide (omega arith) from within

    wide_is : wide ≡ bound + 1
    wide_is = omega (arith, below)

    twice : 0 < 2 * wide
    twice = omega (arith, wide_is)

    fits : wide + (at - wide * wide) / (2 * wide) < rows
    fits = row-below rows at wide (omega arith) from within

    by : (b q p : ℕ) → b ≡ at - wide * wide → wide + q < rows → 2 * wide * q + p ≡ b → p < 2 * wide → place.rows ≡ wide + q → place.columns ≡ p / 2
        → place.carries ≡ (eqb (p % 2) 0 && ltb (p / 2) (wide + q)) → IsPlace bound rows at place
    by b q p behind few split small row column carries =
        record {
          row = omega arith;
          column = omega arith;
          within = omega arith;
          carries = λ t. let even = eqb-true (p % 2) 0 (and_parts (eqb (p % 2) 0) (ltb (p / 2) (wide + q)) (sym carries ∙ t)).0 in let there = ap (rows_len (bound + 1)) row ∙ before in (omega arith, omega arith);
          raises = λ f. let odd = one f in let there = ap (rows_len (bound + 1)) row ∙ before in omega arith;
        }
      where
        before : rows_len (bound + 1) (wide + q) ≡ wide * wide + 2 * wide * q
        before =
            elim (cases_lt wide (wide + q)) [
              | inl more ↦
                  cond-false (leb (wide + q) (bound + 1)) ((wide + q) * (wide + q)) _ (lt-leb (wide + q) (bound + 1) (omega arith))
                  ∙ same (bound + 1) wide_is
              | inr none ↦
                  let zero_is : q ≡ 0 = omega arith in
                  cond-true (leb (wide + q) (bound + 1)) ((wide + q) * (wide + q)) _ (le-leb (wide + q) (bound + 1) (omega arith))
                  ∙ square q zero_is
            ]
          where
            same : (w : ℕ) → wide ≡ w → w * w + 2 * w * (wide + q - w) ≡ wide * wide + 2 * wide * q
            same w e = let back : wide + q - wide ≡ q = omega arith in subst (λ n. n * n + 2 * n * (wide + q - n) ≡ wide * wide + 2 * wide * q) e (ap (λ n. wide * wide + 2 * wide * n) back)

            square : (n : ℕ) → n ≡ 0 → (wide + n) * (wide + n) ≡ wide * wide + 2 * wide * n
            square n e = rw e (omega arith)

        one : place.carries ≡ false → p % 2 ≡ 1
        one f =
            elim (cases_Bool (eqb (p % 2) 0)) [
              | inl even ↦
                  let less = lt-ltb (p / 2) (wide + q) (omega arith) in
                  absurd (false≢true (sym f ∙ (carries ∙ (ap (λ b. b && ltb (p / 2) (wide + q)) even ∙ less))))
              | inr odd ↦ let not_even = eqb-false (p % 2) 0 odd in parity p not_even
            ]
          where
            parity : (n : ℕ) → (n % 2 ≡ 0 → ⊥) → n % 2 ≡ 1
            parity n f = by_two (n % 2) (mod-lt n (omega arith)) f
              where
                by_two : (m : ℕ) → m < 2 → (m ≡ 0 → ⊥) → m ≡ 1
                by_two zero lt f = absurd (f refl)
                by_two (suc zero) lt f = refl
                by_two (suc (suc m)) lt f = absurd (omega arith)

-- the clauses of the rows before
length-rows : (groups bound : ℕ) (kind : Kind) (order : List ℕ) → length (counter groups bound kind order) ≡ rows_len (bound + 1) (length order)
length-rows groups bound kind order = by (length order) (length (counter groups bound kind order)) (counter-size groups bound kind order)
  where
    by : (r l : ℕ) → l + min r (bound + 1) * min r (bound + 1) ≡ 2 * r * min r (bound + 1) → l ≡ rows_len (bound + 1) r
    by r l e =
        elim (cases_lt (bound + 1) r) [
          | inr few ↦
              let all : min r (bound + 1) ≡ r = omega arith in
              square (min r (bound + 1)) all e ∙ sym (cond-true (leb r (bound + 1)) (r * r) ((bound + 1) * (bound + 1) + 2 * (bound + 1) * (r - (bound + 1))) (le-leb r (bound + 1) few))
          | inl many ↦
              let wide : min r (bound + 1) ≡ bound + 1 = omega arith in
              let rest : r ≡ bound + 1 + (r - (bound + 1)) = omega arith in
              long (r - (bound + 1)) (min r (bound + 1)) rest wide e
              ∙ sym (cond-false (leb r (bound + 1)) (r * r) ((bound + 1) * (bound + 1) + 2 * (bound + 1) * (r - (bound + 1))) (lt-leb r (bound + 1) many))
        ]
      where
        square : (m : ℕ) → m ≡ r → l + m * m ≡ 2 * r * m → l ≡ r * r
        square m is h = let at = subst (λ n. l + n * n ≡ 2 * r * n) is h in omega arith

        long : (d m : ℕ) → r ≡ bound + 1 + d → m ≡ bound + 1 → l + m * m ≡ 2 * r * m → l ≡ (bound + 1) * (bound + 1) + 2 * (bound + 1) * d
        long d m is wide h =
            let at = subst (λ n. l + n * n ≡ 2 * r * n) wide h in
            let more = subst (λ n. l + (bound + 1) * (bound + 1) ≡ 2 * n * (bound + 1)) is at in
            omega arith

-- the cells of a row: those before one, it, and those behind it
cells-split : (groups bound rows : ℕ) (lit : ℤ) (c n : ℕ) → c < n
    → (more : List (List ℤ)) × (cells groups bound rows lit n ≡ cells groups bound rows lit c ++ (cell groups bound rows c lit ++ more))
cells-split groups bound rows lit c zero lt = absurd (omega arith)
cells-split groups bound rows lit c (suc m) lt =
    let front = cells groups bound rows lit c in
    let one = cell groups bound rows c lit in
    elim (cases_lt c m) [
      | inl before ↦
          let (more, is) = cells-split groups bound rows lit c m before in
          let last = cell groups bound rows m lit in (
            more ++ last,
            ap (λ (cs : List (List ℤ)). cs ++ last) is ∙ append_assoc front (one ++ more) last
                ∙ ap (λ (cs : List (List ℤ)). front ++ cs) (append_assoc one more last),
          )
      | inr end ↦
          let same : m ≡ c = omega arith in (
            [],
            ap (λ k. cells groups bound rows lit k ++ cell groups bound rows k lit) same
                ∙ ap (λ (cs : List (List ℤ)). front ++ cs) (sym (append-nil one)),
          )
    ]

-- what stands behind a front
at-behind : (front mid back : List (List ℤ)) (q : ℕ) → q < length mid → slice_get (front ++ (mid ++ back)) (length front + q) ≡ Some (get_or mid q [])
at-behind front mid back q lt =
    let split = length-append front (mid ++ back) in
    let inner = length-append mid back in
    slice_get-get_or (front ++ (mid ++ back)) (length front + q) [] (omega arith)
    ∙ ap Some (get_or-append-add front (mid ++ back) q [] ∙ get_or_append_left mid back [] q lt)

-- the clause of a cell
clause-at : (groups bound : ℕ) (kind : Kind) (order : List ℕ) (r c q : ℕ) → r < length order → c ≤ r → c ≤ bound
    → q < length (cell groups bound r c (counted kind (get_or order r 0)))
    → slice_get (counter groups bound kind order) (rows_len (bound + 1) r + (c + c) + q)
    ≡ Some (get_or (cell groups bound r c (counted kind (get_or order r 0))) q [])
clause-at groups bound kind order r c q lt under within small =
    ap (λ n. slice_get (counter groups bound kind order) n) place
    ∙ ap (λ cs. slice_get cs (length (front ++ before) + q)) whole
    ∙ at-behind (front ++ before) one (more.0 ++ rest) q small
  where
    lit : ℤ
    lit = counted kind (get_or order r 0)

    front : List (List ℤ)
    front = counter groups bound kind (take r order)

    before : List (List ℤ)
    before = cells groups bound r lit c

    one : List (List ℤ)
    one = cell groups bound r c lit

    rest : List (List ℤ)
    rest = rows_behind groups bound kind (r + 1) (drop (suc r) order)

    more : (cs : List (List ℤ)) × (counter_row groups bound r lit ≡ cells groups bound r lit c ++ (cell groups bound r c lit ++ cs))
    more = cells-split groups bound r lit c (min (r + 1) (bound + 1)) (omega arith)

    rows : length (take r order) ≡ r
    rows = length-take-le r order (omega arith)

    behind : 0 + length (take r order) ≡ r
    behind = omega (arith, rows)

    split : order ≡ take r order ++ get_or order r 0 ∷ drop (suc r) order
    split = sym (take-append-drop r order) ∙ ap (λ gs. take r order ++ gs) (drop-cons order r 0 lt)

    whole : counter groups bound kind order ≡ (front ++ before) ++ (one ++ (more.0 ++ rest))
    whole =
        ap (counter groups bound kind) split
        ∙ rows_behind-append groups bound kind 0 (take r order) (get_or order r 0 ∷ drop (suc r) order)
        ∙ ap (λ n. front ++ rows_behind groups bound kind n (get_or order r 0 ∷ drop (suc r) order)) behind
        ∙ ap (λ (cs : List (List ℤ)). front ++ (cs ++ rest)) more.1
        ∙ ap (λ (cs : List (List ℤ)). front ++ cs) (append_assoc before (one ++ more.0) rest ∙ ap (λ (cs : List (List ℤ)). before ++ cs) (append_assoc one more.0 rest))
        ∙ sym (append_assoc front before (one ++ (more.0 ++ rest)))

    place : rows_len (bound + 1) r + (c + c) + q ≡ length (front ++ before) + q
    place =
        let all = length-append front before in
        let first = length-rows groups bound kind (take r order) ∙ ap (rows_len (bound + 1)) rows in
        let cells_are = length-cells groups bound r lit c in
        omega arith

-- of a cell with two clauses the first one
pub clause-carries : (groups bound : ℕ) (kind : Kind) (order : List ℕ) (at : ℕ) (place : Place) → IsPlace bound (length order) at place
    → place.carries ≡ true
    → slice_get (counter groups bound kind order) at
    ≡ Some (neg_ℤ (at_least groups bound place.rows (place.columns + 1)) ∷ at_least groups bound (place.rows + 1) (place.columns + 1) ∷ [])
clause-carries groups bound kind order at place is t =
    let (under, there) = is.carries t in
    let lit = counted kind (get_or order place.rows 0) in
    let clause = neg_ℤ (at_least groups bound place.rows (place.columns + 1)) ∷ at_least groups bound (place.rows + 1) (place.columns + 1) ∷ [] in
    let row = is.row in
    let within = is.within in
    let two = cond-true (ltb place.columns place.rows) (clause ∷ []) [] (lt-ltb place.columns place.rows under) in
    let count = length-cell groups bound place.rows place.columns lit in
    let at_is : at ≡ rows_len (bound + 1) place.rows + (place.columns + place.columns) + 0 = omega arith in
    ap (λ n. slice_get (counter groups bound kind order) n) at_is
    ∙ clause-at groups bound kind order place.rows place.columns 0 row (omega arith) within (omega arith)
    ∙ ap (λ (cs : List (List ℤ)). Some (get_or (cs ++ raised groups bound place.rows place.columns lit ∷ []) 0 [])) two

-- and of each cell the last one
pub clause-raises : (groups bound : ℕ) (kind : Kind) (order : List ℕ) (at : ℕ) (place : Place) → IsPlace bound (length order) at place
    → place.carries ≡ false
    → slice_get (counter groups bound kind order) at ≡ Some (raised groups bound place.rows place.columns (counted kind (get_or order place.rows 0)))
clause-raises groups bound kind order at place is f =
    let there = is.raises f in
    let lit = counted kind (get_or order place.rows 0) in
    let last = raised groups bound place.rows place.columns lit in
    let clause = neg_ℤ (at_least groups bound place.rows (place.columns + 1)) ∷ at_least groups bound (place.rows + 1) (place.columns + 1) ∷ [] in
    let row = is.row in
    let column = is.column in
    let within = is.within in
    let count = length-cell groups bound place.rows place.columns lit in
    elim (cases_lt place.columns place.rows) [
      | inl under ↦
          let two = cond-true (ltb place.columns place.rows) (clause ∷ []) [] (lt-ltb place.columns place.rows under) in
          let size = cond-true {A = ℕ} (ltb place.columns place.rows) 1 0 (lt-ltb place.columns place.rows under) in
          let at_is : at ≡ rows_len (bound + 1) place.rows + (place.columns + place.columns) + 1 = omega arith in
          ap (λ n. slice_get (counter groups bound kind order) n) at_is
          ∙ clause-at groups bound kind order place.rows place.columns 1 row column within (omega arith)
          ∙ ap (λ (cs : List (List ℤ)). Some (get_or (cs ++ last ∷ []) 1 [])) two
      | inr end ↦
          let none = cond-false (ltb place.columns place.rows) (clause ∷ []) [] (le-ltb place.columns place.rows end) in
          let at_is : at ≡ rows_len (bound + 1) place.rows + (place.columns + place.columns) + 0 = omega arith in
          ap (λ n. slice_get (counter groups bound kind order) n) at_is
          ∙ clause-at groups bound kind order place.rows place.columns 0 row column within (omega arith)
          ∙ ap (λ (cs : List (List ℤ)). Some (get_or (cs ++ last ∷ []) 0 [])) none
    ]

-- what a place is asked of
pub place-asked : (groups bound : ℕ) (kind : Kind) (order : List ℕ) (at : ℕ) → at < length (counter groups bound kind order)
    → at + min (length order) (bound + 1) * min (length order) (bound + 1) < 2 * length order * min (length order) (bound + 1)
place-asked groups bound kind order at lt = let is = counter-size groups bound kind order in omega arith
