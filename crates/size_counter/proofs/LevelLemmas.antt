-- Levels: their counters, and the groups that are left out.
use Rattle.std.proofs.Common.{◌≡◌, ℕ, zero, suc, ◌+◌, ◌-◌, ◌*◌, ◌<◌, ◌≤◌, min, Bool, true, false, not, ◌&&◌, ◌||◌, cond, Some, List, [], ◌∷◌, ◌++◌, length, take, get_or, refl, sym, ◌∙◌, ap, subst, inl, inr, eqb, ltb, arith, append_assoc, append-nil, length-append}
use Rattle.std.specs.Prelude.{ℤ, neg_ℤ, slice_get}
use Rattle.std.specs.List.{filter, flat_map, list_all}
use Rattle.std.proofs.lemmas.Bool.{false≢true, cases_Bool, cases_lt, or_left, or_right, or_cases, and_parts, ne_eqb, cond-true, cond-false, lt-ltb, ltb-false, false_from_ne_true}
use Rattle.std.proofs.lemmas.Option.{get_or_from_slice_get, slice_get_within}
use Rattle.std.proofs.lemmas.List.{take_more, take_all, length-take}
use Rattle.std.proofs.lemmas.List.Elements.{filter-append}
use Rattle.std.proofs.lemmas.List.Folds.{list_any-append}
use Rattle.sat_base.specs.Members.{In}
use Rattle.sat_base.specs.Literals.{IsLiteral, literal_true, clause_true}
use Rattle.gm_base.specs.Sets.{has, IsSubset, all_groups}
use Rattle.gm_base.specs.declared.kind.Kind.{Kind}
use Rattle.gm_base.specs.declared.kind.Kind.TheVariants.{Conflict, Correction}
use Rattle.gm_base.specs.Explored.{Found}
use Rattle.gm_base.proofs.SetLemmas.{has-filter, has-head}
use Rattle.size_counter.specs.Sizes.{AreDistinct}
use Rattle.size_counter.specs.Counter.{IsOrder, counted, at_least, counter_vars, counter, how_many_count}
use Rattle.size_counter.specs.Names.{Naming, against, names_of}
use Rattle.size_counter.specs.Levels.{Level, level_counter, level_vars, level_limit, left_out, level_by, level}
use Rattle.size_counter.specs.Laws.{ExtendsAssignment}
use Rattle.size_counter.specs.LevelLaws.{ArePartsOf}
use Rattle.size_counter.proofs.SizeLemmas.{distinct-filter, length-filter_le}
use Rattle.size_counter.proofs.NameLemmas.{has-first_named, distinct-first_named}
use Rattle.size_counter.proofs.FewLemmas.{few-extend}
use Rattle.size_counter.proofs.BoundLemmas.{extended-few}
use Rattle.size_counter.proofs.RangeLemmas.{counter-over}
use Rattle.size_counter.proofs.GrowthLemmas.{counter-size}

-- a number that solves the equation of a counter's size is how many clauses the level has, if it has a counter
pub length-level : (l : Level) (n rows : ℕ) → rows ≡ length l.order
    → n + min rows (l.bound + 1) * min rows (l.bound + 1) ≡ 2 * rows * min rows (l.bound + 1)
    → ltb l.bound (length l.order) ≡ true → n ≡ length (level_counter l)
length-level l n rows is size more =
    by (length l.order) is (counter-size l.groups l.bound l.kind l.order)
    ∙ sym (ap length (cond-true (ltb l.bound (length l.order)) (counter l.groups l.bound l.kind l.order) [] more))
  where
    by : (m : ℕ) → rows ≡ m
        → length (counter l.groups l.bound l.kind l.order) + min m (l.bound + 1) * min m (l.bound + 1) ≡ 2 * m * min m (l.bound + 1)
        → n ≡ length (counter l.groups l.bound l.kind l.order)
    by m e h = let same = subst (λ k. n + min k (l.bound + 1) * min k (l.bound + 1) ≡ 2 * k * min k (l.bound + 1)) e size in omega arith

-- one clause more
pub clauses-more : (clauses before : List (List ℤ)) (at : ℕ) (c : List ℤ) → slice_get clauses at ≡ Some c
    → (before ++ take at clauses) ++ c ∷ [] ≡ before ++ take (at + 1) clauses
clauses-more clauses before at c is =
    append_assoc before (take at clauses) (c ∷ [])
    ∙ ap (λ x. before ++ (take at clauses ++ x ∷ [])) (sym (get_or_from_slice_get clauses at c [] is))
    ∙ ap (λ cs. before ++ cs) (sym (take_more clauses at [] (slice_get_within clauses at c is)))

-- a list but for the first so many that pass
abbrev pub but_first : ℕ → (ℕ → Bool) → List ℕ → List ℕ
but_first k p [] = []
but_first k p (x ∷ xs) = cond (p x && ltb 0 k) (but_first (k - 1) p xs) (x ∷ but_first k p xs)

-- a number at the end is dropped if it passes and fewer than so many before it did
pub but_first-push : (k : ℕ) (p : ℕ → Bool) (xs : List ℕ) (x : ℕ)
    → but_first k p (xs ++ x ∷ []) ≡ but_first k p xs ++ cond (p x && ltb 0 (k - length (filter p xs))) [] (x ∷ [])
but_first-push k p [] x = by (p x && ltb 0 k) ∙ ap (λ n. cond (p x && ltb 0 n) [] (x ∷ [])) (none k)
  where
    by : (b : Bool) → cond b [] (x ∷ []) ≡ [] ++ cond b [] (x ∷ [])
    by true = refl
    by false = refl

    none : (n : ℕ) → n ≡ n - 0
    none n = omega arith
but_first-push k p (y ∷ ys) x =
    elim (cases_Bool (p y)) [
      | inr fails ↦
          let test = ap (λ b. b && ltb 0 k) fails in
          let count : length (filter p ys) ≡ length (filter p (y ∷ ys)) = sym (ap length (cond-false (p y) (y ∷ filter p ys) (filter p ys) fails)) in
          kept test (ap (λ n. k - n) count) (but_first-push k p ys x)
      | inl passes ↦
          elim (cases_lt 0 k) [
            | inl some ↦
                let test = ap (λ b. b && ltb 0 k) passes ∙ lt-ltb 0 k some in
                let count = ap length (cond-true (p y) (y ∷ filter p ys) (filter p ys) passes) in
                dropped test (omega arith) (but_first-push (k - 1) p ys x)
            | inr none ↦
                let test = ap (λ b. b && ltb 0 k) passes ∙ ltb-none k (omega arith) in
                kept test (omega arith) (but_first-push k p ys x)
          ]
    ]
  where
    ltb-none : (n : ℕ) → n ≡ 0 → ltb 0 n ≡ false
    ltb-none n e = subst (λ m. ltb 0 m ≡ false) (sym e) refl

    kept : (p y && ltb 0 k) ≡ false → k - length (filter p ys) ≡ k - length (filter p (y ∷ ys))
        → but_first k p (ys ++ x ∷ []) ≡ but_first k p ys ++ cond (p x && ltb 0 (k - length (filter p ys))) [] (x ∷ [])
        → but_first k p (y ∷ ys ++ x ∷ []) ≡ but_first k p (y ∷ ys) ++ cond (p x && ltb 0 (k - length (filter p (y ∷ ys)))) [] (x ∷ [])
    kept test same rest =
        cond-false (p y && ltb 0 k) (but_first (k - 1) p (ys ++ x ∷ [])) (y ∷ but_first k p (ys ++ x ∷ [])) test
        ∙ ap (λ zs. y ∷ zs) rest
        ∙ ap (λ n. (y ∷ but_first k p ys) ++ cond (p x && ltb 0 n) [] (x ∷ [])) same
        ∙ ap (λ zs. zs ++ cond (p x && ltb 0 (k - length (filter p (y ∷ ys)))) [] (x ∷ [])) (sym (cond-false (p y && ltb 0 k) (but_first (k - 1) p ys) (y ∷ but_first k p ys) test))

    dropped : (p y && ltb 0 k) ≡ true → k - 1 - length (filter p ys) ≡ k - length (filter p (y ∷ ys))
        → but_first (k - 1) p (ys ++ x ∷ []) ≡ but_first (k - 1) p ys ++ cond (p x && ltb 0 (k - 1 - length (filter p ys))) [] (x ∷ [])
        → but_first k p (y ∷ ys ++ x ∷ []) ≡ but_first k p (y ∷ ys) ++ cond (p x && ltb 0 (k - length (filter p (y ∷ ys)))) [] (x ∷ [])
    dropped test same rest =
        cond-true (p y && ltb 0 k) (but_first (k - 1) p (ys ++ x ∷ [])) (y ∷ but_first k p (ys ++ x ∷ [])) test
        ∙ rest
        ∙ ap (λ n. but_first (k - 1) p ys ++ cond (p x && ltb 0 n) [] (x ∷ [])) same
        ∙ ap (λ zs. zs ++ cond (p x && ltb 0 (k - length (filter p (y ∷ ys)))) [] (x ∷ [])) (sym (cond-true (p y && ltb 0 k) (but_first (k - 1) p ys) (y ∷ but_first k p ys) test))

-- tests that agree on the numbers of a list leave the same of it
filter-alike : (p q : ℕ → Bool) (xs : List ℕ) → ((x : ℕ) → has xs x ≡ true → p x ≡ q x) → filter p xs ≡ filter q xs
filter-alike p q [] same = refl
filter-alike p q (x ∷ xs) same =
    ap (λ b. cond b (x ∷ filter p xs) (filter p xs)) (same x (has-head x xs))
    ∙ ap (λ ys. cond (q x) (x ∷ ys) ys) (filter-alike p q xs (λ y i. same y (or_right (eqb x y) (has xs y) i)))

-- a test that everything passes drops nothing
filter-all : (xs : List ℕ) → filter (λ x. true) xs ≡ xs
filter-all [] = refl
filter-all (x ∷ xs) = ap (λ ys. x ∷ ys) (filter-all xs)

-- what is among the first numbers is in the list
has-take : (n : ℕ) (xs : List ℕ) (g : ℕ) → has (take n xs) g ≡ true → has xs g ≡ true
has-take zero xs g h = absurd (false≢true h)
has-take (suc n) [] g h = absurd (false≢true h)
has-take (suc n) (x ∷ xs) g h =
    elim (or_cases (eqb x g) (has (take n xs) g) h) [
      | inl here ↦ or_left (eqb x g) (has xs g) here
      | inr later ↦ or_right (eqb x g) (has xs g) (has-take n xs g later)
    ]

-- of numbers that differ, what remains is what is not among the first so many that pass
pub but_first-outside : (k : ℕ) (p : ℕ → Bool) (xs : List ℕ) → AreDistinct xs
    → but_first k p xs ≡ filter (λ g. not (has (take k (filter p xs)) g)) xs
but_first-outside k p [] d = refl
but_first-outside zero p (x ∷ xs) d = none (x ∷ xs) ∙ sym (filter-all (x ∷ xs))
  where
    none : (ys : List ℕ) → but_first 0 p ys ≡ ys
    none [] = refl
    none (y ∷ ys) = by (p y) ∙ ap (λ zs. y ∷ zs) (none ys)
      where
        by : (b : Bool) → cond (b && ltb 0 0) (but_first (0 - 1) p ys) (y ∷ but_first 0 p ys) ≡ y ∷ but_first 0 p ys
        by true = refl
        by false = refl
but_first-outside (suc k) p (x ∷ xs) d =
    elim (cases_Bool (p x)) [
      | inl passes ↦
          let all = cond-true (p x) (x ∷ filter p xs) (filter p xs) passes in
          cond-true (p x && ltb 0 (suc k)) (but_first (suc k - 1) p xs) (x ∷ but_first (suc k) p xs) (ap (λ b. b && ltb 0 (suc k)) passes ∙ lt-ltb 0 (suc k) (omega arith))
          ∙ ap (λ n. but_first n p xs) (pred k)
          ∙ but_first-outside k p xs d.1
          ∙ filter-alike (λ g. not (has (take k (filter p xs)) g)) (λ g. not (has (x ∷ take k (filter p xs)) g)) xs (other (take k (filter p xs)))
          ∙ sym (cond-false (not (has (x ∷ take k (filter p xs)) x)) (x ∷ outside (x ∷ take k (filter p xs))) (outside (x ∷ take k (filter p xs))) (ap not (has-head x (take k (filter p xs)))))
          ∙ ap (λ ys. filter (λ g. not (has (take (suc k) ys) g)) (x ∷ xs)) (sym all)
      | inr fails ↦
          let all = cond-false (p x) (x ∷ filter p xs) (filter p xs) fails in
          let gone = false_from_ne_true (has (take (suc k) (filter p xs)) x) (λ i. absurd (false≢true (sym d.0 ∙ (and_parts (p x) (has xs x) (sym (has-filter p xs x) ∙ has-take (suc k) (filter p xs) x i)).1))) in
          cond-false (p x && ltb 0 (suc k)) (but_first (suc k - 1) p xs) (x ∷ but_first (suc k) p xs) (ap (λ b. b && ltb 0 (suc k)) fails)
          ∙ ap (λ ys. x ∷ ys) (but_first-outside (suc k) p xs d.1)
          ∙ sym (cond-true (not (has (take (suc k) (filter p xs)) x)) (x ∷ outside (take (suc k) (filter p xs))) (outside (take (suc k) (filter p xs))) (ap not gone))
          ∙ ap (λ ys. filter (λ g. not (has (take (suc k) ys) g)) (x ∷ xs)) (sym all)
    ]
  where
    outside : List ℕ → List ℕ
    outside out = filter (λ g. not (has out g)) xs

    pred : (n : ℕ) → suc n - 1 ≡ n
    pred n = omega arith

    other : (out : List ℕ) (g : ℕ) → has xs g ≡ true → not (has out g) ≡ not (has (x ∷ out) g)
    other out g i =
        let apart : eqb x g ≡ false = ne_eqb x g (λ e. false≢true (sym d.0 ∙ (ap (has xs) e ∙ i))) in
        ap not (sym (ap (λ b. b || has out g) apart))

-- of the groups so far the first that are sure were left out, as many as may count
pub record LeavesTo (most : ℕ) (alone named : List ℕ) (i : ℕ) (order : List ℕ) (left : ℕ) : Type 0 where
  pub kept : order ≡ but_first most (has alone) (take i named)
  pub count : left ≡ most - length (filter (has alone) (take i named))

-- a number at the end counts once more if it passes
length-filter-push : (p : ℕ → Bool) (xs : List ℕ) (x : ℕ) → length (filter p (xs ++ x ∷ [])) ≡ length (filter p xs) + cond (p x) 1 0
length-filter-push p xs x =
    ap length (filter-append p xs (x ∷ [])) ∙ length-append (filter p xs) (filter p (x ∷ [])) ∙ ap (λ n. length (filter p xs) + n) (by (p x))
  where
    by : (b : Bool) → length (cond b (x ∷ []) []) ≡ cond b 1 0
    by true = refl
    by false = refl

-- a group that is sure is left out as long as more may count, and one fewer may then
pub LeavesTo-out : (most : ℕ) (alone named : List ℕ) (i : ℕ) (order : List ℕ) (left : ℕ) → i < length named
    → LeavesTo most alone named i order left → has alone (get_or named i 0) ≡ true → 0 < left
    → LeavesTo most alone named (i + 1) order (left - 1)
LeavesTo-out most alone named i order left lt l sure some =
    let p = has alone in
    let xs = take i named in
    let g = get_or named i 0 in
    let more = take_more named i 0 lt in
    let count = l.count in
    let test : (p g && ltb 0 (most - length (filter p xs))) ≡ true =
    ap (λ b. b && ltb 0 (most - length (filter p xs))) sure ∙ lt-ltb 0 (most - length (filter p xs)) (omega arith) in
    let size = length-filter-push p xs g ∙ ap (λ b. length (filter p xs) + cond b 1 0) sure in
    record {
      kept =
          l.kept ∙ sym (append-nil (but_first most p xs)) ∙ ap (λ ys. but_first most p xs ++ ys) (sym (cond-true _ [] (g ∷ []) test))
          ∙ sym (but_first-push most p xs g) ∙ ap (but_first most p) (sym more);
      count = let whole : left - 1 ≡ most - length (filter p (xs ++ g ∷ [])) = omega arith in whole ∙ ap (λ ys. most - length (filter p ys)) (sym more);
    }

-- any other group goes into the order, and as many may count as before
pub LeavesTo-kept : (most : ℕ) (alone named : List ℕ) (i : ℕ) (order : List ℕ) (left : ℕ) → i < length named
    → LeavesTo most alone named i order left → (has alone (get_or named i 0) && ltb 0 left) ≡ false
    → LeavesTo most alone named (i + 1) (order ++ get_or named i 0 ∷ []) left
LeavesTo-kept most alone named i order left lt l out =
    let p = has alone in
    let xs = take i named in
    let g = get_or named i 0 in
    let more = take_more named i 0 lt in
    let count = l.count in
    let test : (p g && ltb 0 (most - length (filter p xs))) ≡ false = ap (λ n. p g && ltb 0 n) (sym count) ∙ out in
    record {
      kept =
          ap (λ ys. ys ++ g ∷ []) l.kept ∙ ap (λ ys. but_first most p xs ++ ys) (sym (cond-false _ [] (g ∷ []) test))
          ∙ sym (but_first-push most p xs g) ∙ ap (but_first most p) (sym more);
      count = stays (p g) refl ∙ ap (λ ys. most - length (filter p ys)) (sym more);
    }
  where
    stays : (b : Bool) → has alone (get_or named i 0) ≡ b → left ≡ most - length (filter (has alone) (take i named ++ get_or named i 0 ∷ []))
    stays true is =
        let size = length-filter-push (has alone) (take i named) (get_or named i 0) ∙ ap (λ b. length (filter (has alone) (take i named)) + cond b 1 0) is in
        let none = not_less left (sym (ap (λ b. b && ltb 0 left) is) ∙ out) in
        let count = l.count in
        omega arith
      where
        not_less : (n : ℕ) → ltb 0 n ≡ false → n ≡ 0
        not_less zero f = refl
        not_less (suc n) f = absurd (false≢true (sym f ∙ lt-ltb 0 (suc n) (omega arith)))
    stays false is =
        let size = length-filter-push (has alone) (take i named) (get_or named i 0) ∙ ap (λ b. length (filter (has alone) (take i named)) + cond b 1 0) is in
        let count = l.count in
        omega arith

-- all groups are an order
pub order-level : (groups most : ℕ) (names : Naming) → AreDistinct names.named → IsSubset names.named (all_groups groups)
    → IsOrder groups (level_by groups most names).order
order-level groups most names distinct within =
    record {
      within = λ g i. within g (and_parts (out g) (has names.named g) (sym (has-filter out names.named g) ∙ i)).1;
      distinct = distinct-filter out names.named distinct;
    }
  where
    out : ℕ → Bool
    out g = not (has (left_out most names) g)

-- what was left out when all were gone through
pub LeavesTo-end : (most groups : ℕ) (names : Naming) (i : ℕ) (order : List ℕ) (left : ℕ) → AreDistinct names.named → length names.named ≤ i
    → LeavesTo most names.alone names.named i order left
    → (order ≡ (level_by groups most names).order) × (left ≡ (level_by groups most names).bound)
LeavesTo-end most groups names i order left distinct end l =
    let all = take_all i names.named end in
    let sizes = length-take most (filter (has names.alone) names.named) in
    let count = l.count ∙ ap (λ xs. most - length (filter (has names.alone) xs)) all in (
      l.kept ∙ ap (but_first most (has names.alone)) all ∙ but_first-outside most (has names.alone) names.named distinct,
      omega arith,
    )

-- an order and a bound that are the level's give the level
pub level-made : (groups most : ℕ) (names : Naming) (left : ℕ) (order : List ℕ) → order ≡ (level_by groups most names).order
    → left ≡ (level_by groups most names).bound
    → record { kind = names.kind; groups = groups; bound = left; order = order } ≡ level_by groups most names
level-made groups most names left order is bound =
    ap (λ (gs : List ℕ). made left gs) is ∙ ap (λ (b : ℕ). made b (level_by groups most names).order) bound
  where
    made : ℕ → List ℕ → Level
    made b gs = record { kind = names.kind; groups = groups; bound = b; order = gs }

-- a level's counter and its limit, where it has one and where not
pub level-few : (l : Level) (assign : List Bool) → IsOrder l.groups l.order → length assign ≡ l.groups
    → how_many_count assign l.kind l.order ≤ l.bound
    → (values : List Bool) × ExtendsAssignment l.groups (level_vars l) (level_counter l) (level_limit l) assign values
level-few l assign o total few =
    elim (cases_Bool (ltb l.bound (length l.order))) [
      | inl more ↦
          let (values, e) = few-extend l.groups l.bound l.kind l.order assign o total few in (
            values,
            record {
              total = e.total ∙ sym (cond-true (ltb l.bound (length l.order)) (counter_vars l.groups l.bound (length l.order)) l.groups more);
              agrees = e.agrees;
              clauses_true =
                  subst (λ (cs : List (List ℤ)). list_all (clause_true values) cs ≡ true)
                  (sym (cond-true (ltb l.bound (length l.order)) (counter l.groups l.bound l.kind l.order) [] more)) e.clauses_true;
              limit_true = e.limit_true;
            },
          )
      | inr none ↦ (
        assign,
        record {
          total = total ∙ sym (cond-false (ltb l.bound (length l.order)) (counter_vars l.groups l.bound (length l.order)) l.groups none);
          agrees = take_all l.groups assign (omega (arith, total));
          clauses_true =
              subst (λ (cs : List (List ℤ)). list_all (clause_true assign) cs ≡ true)
              (sym (cond-false (ltb l.bound (length l.order)) (counter l.groups l.bound l.kind l.order) [] none)) refl;
          limit_true =
              subst (λ (ls : List ℤ). list_all (literal_true assign) ls ≡ true)
              (sym (cond-false (ltb l.bound (length l.order)) (neg_ℤ (at_least l.groups l.bound (length l.order) (l.bound + 1)) ∷ []) [] none)) refl;
        },
      )
    ]

-- with a counter that is its own law; without one no more groups are in the order than may count
pub level-extended : (l : Level) (values : List Bool) → IsOrder l.groups l.order → list_all (clause_true values) (level_counter l) ≡ true
    → list_all (literal_true values) (level_limit l) ≡ true → how_many_count values l.kind l.order ≤ l.bound
level-extended l values o all limited =
    elim (cases_Bool (ltb l.bound (length l.order))) [
      | inl more ↦
          extended-few l.groups l.bound l.kind l.order values o
          (subst (λ (cs : List (List ℤ)). list_all (clause_true values) cs ≡ true) (cond-true (ltb l.bound (length l.order)) (counter l.groups l.bound l.kind l.order) [] more) all)
          limited
      | inr none ↦
          let fits = length-filter_le (λ g. literal_true values (counted l.kind g)) l.order in
          let few = ltb-false l.bound (length l.order) none in
          omega arith
    ]

-- with a counter each is over its variables; without one there is no clause
pub level-over : (l : Level) (clause : List ℤ) (lit : ℤ) → IsOrder l.groups l.order → In clause (level_counter l) → In lit clause
    → IsLiteral (level_vars l) lit
level-over l clause lit o i j =
    elim (cases_Bool (ltb l.bound (length l.order))) [
      | inl more ↦
          subst (λ n. IsLiteral n lit) (sym (cond-true (ltb l.bound (length l.order)) (counter_vars l.groups l.bound (length l.order)) l.groups more))
          (counter-over l.groups l.bound l.kind l.order clause lit o
          (subst (In clause) (cond-true (ltb l.bound (length l.order)) (counter l.groups l.bound l.kind l.order) [] more) i) j)
      | inr none ↦ absurd (subst (In clause) (cond-false (ltb l.bound (length l.order)) (counter l.groups l.bound l.kind l.order) [] none) i)
    ]

-- how a level parts the groups
pub level-parts : (groups most : ℕ) (names : Naming) → AreDistinct names.named → ArePartsOf most names (level_by groups most names)
level-parts groups most names distinct =
    record {
      each = λ g. parts (has (left_out most names) g) (has names.named g) (from_left g) ∙ ap (λ b. has (left_out most names) g || b) (sym (has-filter out names.named g));
      apart = λ g i. has-filter out names.named g ∙ ap (λ b. not b && has names.named g) i;
      distinct = distinct-take most sure (distinct-filter (has names.alone) names.named distinct);
      sure = λ g i. (and_parts (has names.alone g) (has names.named g) (sym (has-filter (has names.alone) names.named g) ∙ has-take most sure g i)).0;
      sum = let n = length-take most sure in omega arith;
    }
  where
    sure : List ℕ
    sure = filter (has names.alone) names.named

    out : ℕ → Bool
    out g = not (has (left_out most names) g)

    from_left : (g : ℕ) → has (left_out most names) g ≡ true → has names.named g ≡ true
    from_left g i = (and_parts (has names.alone g) (has names.named g) (sym (has-filter (has names.alone) names.named g) ∙ has-take most (filter (has names.alone) names.named) g i)).1

    parts : (a b : Bool) → (a ≡ true → b ≡ true) → b ≡ (a || (not a && b))
    parts true b f = f refl
    parts false b f = refl

    distinct-take : (n : ℕ) (xs : List ℕ) → AreDistinct xs → AreDistinct (take n xs)
    distinct-take zero xs d = tt
    distinct-take (suc n) [] d = tt
    distinct-take (suc n) (x ∷ xs) d = (false_from_ne_true (has (take n xs) x) (λ i. absurd (false≢true (sym d.0 ∙ has-take n xs x i))), distinct-take n xs d.1)

-- the groups that sets name are groups of the problem
within-named : (kind : Kind) (groups : ℕ) (found : List Found) → ((f : Found) → In f found → IsSubset f.set (all_groups groups))
    → IsSubset (flat_map (λ (f : Found). against kind f.kind f.set) found) (all_groups groups)
within-named kind groups [] within g i = absurd (false≢true i)
within-named kind groups (f ∷ fs) within g i =
    elim (or_cases (has (against kind f.kind f.set) g) (has (flat_map (λ (e : Found). against kind e.kind e.set) fs) g)
    (sym (list_any-append (λ h. eqb h g) (against kind f.kind f.set) (flat_map (λ (e : Found). against kind e.kind e.set) fs)) ∙ i)) [
      | inl here ↦ within f (inl refl) g (by kind f.kind here)
      | inr later ↦ within-named kind groups fs (λ e j. within e (inr j)) g later
    ]
  where
    by : (k other : Kind) → has (against k other f.set) g ≡ true → has f.set g ≡ true
    by Conflict Conflict h = absurd (false≢true h)
    by Conflict Correction h = h
    by Correction Conflict h = h
    by Correction Correction h = absurd (false≢true h)

-- what sets of the problem name are its groups, and each is named once
pub names-order : (kind : Kind) (groups : ℕ) (found : List Found) → ((f : Found) → In f found → IsSubset f.set (all_groups groups))
    → IsOrder groups (names_of kind found).named
names-order kind groups found within =
    let names = flat_map (λ (f : Found). against kind f.kind f.set) found in
    record {
      within = λ g i. within-named kind groups found within g (sym (has-first_named names g) ∙ i);
      distinct = distinct-first_named names;
    }

-- the groups that are counted are some of those that were named
pub level-order : (kind : Kind) (groups most : ℕ) (found : List Found) → ((f : Found) → In f found → IsSubset f.set (all_groups groups))
    → IsOrder groups (level kind groups most found).order
level-order kind groups most found within =
    let o = names-order kind groups found within in
    order-level groups most (names_of kind found) o.distinct o.within

-- before the first group none is left out, and as many may count as at the outset
pub LeavesTo-start : (most : ℕ) (alone named : List ℕ) → LeavesTo most alone named 0 [] most
LeavesTo-start most alone named = record { kept = refl; count = omega arith }
