-- Where each set at which few groups count is explored, no assignment makes a level's clauses true under its limit: read as a
-- set, with no group that counts beside those that were named, it would be one that nothing explores.
use Rattle.std.proofs.Common.{◌≡◌, ℕ, suc, ◌+◌, ◌-◌, ◌*◌, ◌<◌, ◌≤◌, Bool, true, false, not, ◌&&◌, ◌||◌, cond, List, [], ◌∷◌, ◌++◌, map, length, refl, sym, ◌∙◌, ap, subst, inl, inr, arith, eqb, ltb, length-append}
use Rattle.std.specs.Prelude.{ℤ, pos, negsuc, neg_ℤ}
use Rattle.std.specs.Ordering.{int_eq}
use Rattle.std.specs.List.{list_all, filter, flat_map}
use Rattle.std.proofs.lemmas.Bool.{false≢true, cases_Bool, and_parts, and_from, or_cases, or_left, or_right, cond-true, cond-false, ltb-true, false_from_ne_true, not-true}
use Rattle.std.proofs.lemmas.Bool.Decides.{Decides-int_eq}
use Rattle.std.proofs.lemmas.List.{get_or_past}
use Rattle.std.proofs.lemmas.List.Folds.{list_any-append, list_all-append}
use Rattle.sat_base.specs.Members.{In}
use Rattle.sat_base.specs.Literals.{var_of, IsLiteral, literal_true, clause_true}
use Rattle.sat_base.specs.Derivation.{Derivation}
use Rattle.sat_base.proofs.Members.{In-from_map, all_at, any_from}
use Rattle.sat_base.proofs.FollowsLemmas.{literal_true-neg}
use Rattle.gm_base.specs.Sets.{has, IsGroupSet, IsSubset, all_groups, complement}
use Rattle.gm_base.specs.Problem.{Problem}
use Rattle.gm_base.specs.declared.kind.Kind.{Kind}
use Rattle.gm_base.specs.declared.kind.Kind.TheVariants.{Conflict, Correction}
use Rattle.gm_base.specs.Explored.{Found, explores, is_explored, is_model, block_clause}
use Rattle.gm_base.proofs.SetLemmas.{all_groups-has, has-filter, has-complement, AscendsAbove-filter, AscendsAbove-range, IsGroupSet-complement}
use Rattle.gm_base.proofs.ExploredLemmas.{AreWithin}
use Rattle.evidence_rec.proofs.BlockLemmas.{in_has}
use Rattle.evidence_rec.specs.declared.record.Record.{Record}
use Rattle.evidence_rec.specs.Records.{founds, AllAccepted}
use Rattle.size_counter.specs.Sizes.{AreDistinct, seed_of, size_for}
use Rattle.size_counter.specs.Counter.{counted, at_least, counter_vars, how_many_count, IsOrder}
use Rattle.size_counter.specs.Names.{against, names_of}
use Rattle.size_counter.specs.Levels.{Level, left_out, level, level_counter, level_vars, level_limit}
use Rattle.size_counter.specs.LevelLaws.{ArePartsOf}
use Rattle.size_counter.proofs.SizeLemmas.{distinct-fit, distinct-ascends}
use Rattle.size_counter.proofs.NameLemmas.{has-first_named}
use Rattle.size_counter.proofs.LevelLemmas.{level-extended, level-parts, level-order, names-order}
use Rattle.size_levels.specs.Sizes.{ExploredUpTo}
use Rattle.size_levels.specs.Shown.{is_more, level_clauses, shows_level}
use Rattle.size_levels.proofs.LevelLemmas.{level_clauses-over, accepted-within}
use Rattle.size_levels.proofs.TreeLemmas.{IsBase, derivation}

-- whether a group that is not named is in: where what is out is counted
abbrev else_in : Kind → Bool
else_in Conflict = false
else_in Correction = true

-- the set that values are read as: of the groups that were named those whose variables are true, and of the others none that
-- counts
abbrev is_in : Kind → List ℕ → List Bool → ℕ → Bool
is_in kind named values g = cond (has named g) (literal_true values (pos g)) (else_in kind)

abbrev read_set : Kind → ℕ → List ℕ → List Bool → List ℕ
read_set kind groups named values = filter (is_in kind named values) (all_groups groups)

-- of a group of the problem the test tells whether it is in that set
has-read : (kind : Kind) (groups : ℕ) (named : List ℕ) (values : List Bool) (g : ℕ) → has (all_groups groups) g ≡ true
    → has (read_set kind groups named values) g ≡ is_in kind named values g
has-read kind groups named values g within =
    has-filter (is_in kind named values) (all_groups groups) g ∙ ap (λ b. is_in kind named values g && b) within ∙ and_true (is_in kind named values g)
  where
    and_true : (b : Bool) → (b && true) ≡ b
    and_true true = refl
    and_true false = refl

-- a set of the other kind names its groups
names-other : (kind : Kind) (found : List Found) (f : Found) (g : ℕ) → In f found → has (against kind f.kind f.set) g ≡ true
    → has (names_of kind found).named g ≡ true
names-other kind found f g i h = has-first_named (flat_map (λ (e : Found). against kind e.kind e.set) found) g ∙ there found i
  where
    there : (fs : List Found) → In f fs → has (flat_map (λ (e : Found). against kind e.kind e.set) fs) g ≡ true
    there [] j = absurd j
    there (e ∷ es) (inl same) =
        list_any-append (λ k. eqb k g) (against kind e.kind e.set) (flat_map (λ (d : Found). against kind d.kind d.set) es)
        ∙ or_left (has (against kind e.kind e.set) g) _ (subst (λ (d : Found). has (against kind d.kind d.set) g ≡ true) same h)
    there (e ∷ es) (inr j) =
        list_any-append (λ k. eqb k g) (against kind e.kind e.set) (flat_map (λ (d : Found). against kind d.kind d.set) es)
        ∙ or_right (has (against kind e.kind e.set) g) _ (there es j)

-- not all pass if one of them fails
any-false : {X : Type 0} (p : X → Bool) (xs : List X) (x : X) → In x xs → p x ≡ false → list_all p xs ≡ false
any-false p xs x i f = false_from_ne_true (list_all p xs) (λ all. absurd (false≢true (sym f ∙ all_at p xs x all i)))

-- where its block is true, a set that was found does not explore what is read
read-unexplored : (groups : ℕ) (named : List ℕ) (values : List Bool) (kind other : Kind) (set : List ℕ) → IsSubset set (all_groups groups)
    → ((g : ℕ) → has (against kind other set) g ≡ true → has named g ≡ true)
    → clause_true values (block_clause (record { kind = other; set = set })) ≡ true
    → explores (record { kind = other; set = set }) (read_set kind groups named values) ≡ false
read-unexplored groups named values kind Conflict set within names t =
    let (l, i, e) = any_from (literal_true values) (map (λ g. neg_ℤ (pos g)) set) t in
    let (g, j, is) = In-from_map (λ h. neg_ℤ (pos h)) l set i in
    let inside = in_has set g j in
    let (low, high) = all_groups-has groups g (within g inside) in
    let out : literal_true values (pos g) ≡ false =
    not-true (literal_true values (pos g)) (sym (literal_true-neg values (pos g) low) ∙ (sym (ap (literal_true values) is) ∙ e)) in
    any-false (has (read_set kind groups named values)) set g j (has-read kind groups named values g (within g inside) ∙ by kind g inside out names)
  where
    by : (k : Kind) (g : ℕ) → has set g ≡ true → literal_true values (pos g) ≡ false
        → ((h : ℕ) → has (against k Conflict set) h ≡ true → has named h ≡ true) → is_in k named values g ≡ false
    by Conflict g inside out n =
        elim (cases_Bool (has named g)) [
          | inl there ↦ cond-true (has named g) (literal_true values (pos g)) false there ∙ out
          | inr not_there ↦ cond-false (has named g) (literal_true values (pos g)) false not_there
        ]
    by Correction g inside out n = cond-true (has named g) (literal_true values (pos g)) true (n g inside) ∙ out
read-unexplored groups named values kind Correction set within names t =
    let (l, i, e) = any_from (literal_true values) (map pos set) t in
    let (g, j, is) = In-from_map pos l set i in
    let inside = in_has set g j in
    let on : literal_true values (pos g) ≡ true = sym (ap (literal_true values) is) ∙ e in
    any-false (λ h. not (has (read_set kind groups named values) h)) set g j
    (ap not (has-read kind groups named values g (within g inside) ∙ by kind g inside on names))
  where
    by : (k : Kind) (g : ℕ) → has set g ≡ true → literal_true values (pos g) ≡ true
        → ((h : ℕ) → has (against k Correction set) h ≡ true → has named h ≡ true) → is_in k named values g ≡ true
    by Conflict g inside on n = cond-true (has named g) (literal_true values (pos g)) false (n g inside) ∙ on
    by Correction g inside on n =
        elim (cases_Bool (has named g)) [
          | inl there ↦ cond-true (has named g) (literal_true values (pos g)) true there ∙ on
          | inr not_there ↦ cond-false (has named g) (literal_true values (pos g)) true not_there
        ]

-- where all blocks are true, none of the sets that were found explores it
none-explores : (groups : ℕ) (named : List ℕ) (values : List Bool) (kind : Kind) (found : List Found) → AreWithin groups found
    → ((f : Found) (g : ℕ) → In f found → has (against kind f.kind f.set) g ≡ true → has named g ≡ true)
    → is_model found values ≡ true → is_explored found (read_set kind groups named values) ≡ false
none-explores groups named values kind [] within names model = refl
none-explores groups named values kind (f ∷ fs) within names model =
    let parts = and_parts (clause_true values (block_clause f)) (is_model fs values) model in
    ap (λ b. b || is_explored fs (read_set kind groups named values))
    (read-unexplored groups named values kind f.kind f.set (within f (inl refl)) (λ g. names f g (inl refl)) parts.0)
    ∙ none-explores groups named values kind fs (λ e i. within e (inr i)) (λ e g i. names e g (inr i)) parts.1

-- what counts of it was named, and counts under the values
read-counts : (groups : ℕ) (named : List ℕ) (values : List Bool) (kind : Kind) (g : ℕ)
    → has (seed_of kind groups (read_set kind groups named values)) g ≡ true
    → (has named g ≡ true) × (literal_true values (counted kind g) ≡ true)
read-counts groups named values Conflict g i =
    let parts = and_parts (is_in Conflict named values g) (has (all_groups groups) g) (sym (has-filter (is_in Conflict named values) (all_groups groups) g) ∙ i) in
    elim (cases_Bool (has named g)) [
      | inl there ↦ (there, sym (cond-true (has named g) (literal_true values (pos g)) false there) ∙ parts.0)
      | inr not_there ↦ absurd (false≢true (sym (cond-false (has named g) (literal_true values (pos g)) false not_there) ∙ parts.0))
    ]
read-counts groups named values Correction g i =
    let parts = and_parts (not (has (read_set Correction groups named values) g)) (has (all_groups groups) g)
    (sym (has-complement groups (read_set Correction groups named values) g) ∙ i) in
    let out = sym (has-read Correction groups named values g parts.1) ∙ not-true (has (read_set Correction groups named values) g) parts.0 in
    let (low, high) = all_groups-has groups g parts.1 in
    elim (cases_Bool (has named g)) [
      | inl there ↦
          (there, literal_true-neg values (pos g) low ∙ ap not (sym (cond-true (has named g) (literal_true values (pos g)) true there) ∙ out))
      | inr not_there ↦ absurd (false≢true (sym out ∙ cond-false (has named g) (literal_true values (pos g)) true not_there))
    ]

-- so a model of a level would be a set of few groups that nothing explores
no-model : (kind : Kind) (groups most : ℕ) (found : List Found) → AreWithin groups found → ExploredUpTo kind groups most found
    → (values : List Bool) → is_model found values ≡ true
    → how_many_count values kind (level kind groups most found).order ≤ (level kind groups most found).bound → ⊥
no-model kind groups most found within all values model few =
    false≢true (sym (none-explores groups (names_of kind found).named values kind found within (λ f g i h. names-other kind found f g i h) model)
    ∙ all.explored set is_set inside size)
  where
    set : List ℕ
    set = read_set kind groups (names_of kind found).named values

    is_set : IsGroupSet (read_set kind groups (names_of kind found).named values)
    is_set = AscendsAbove-filter (is_in kind (names_of kind found).named values) 0 (all_groups groups) (AscendsAbove-range 0 groups)

    inside : IsSubset (read_set kind groups (names_of kind found).named values) (all_groups groups)
    inside g i = (and_parts (is_in kind (names_of kind found).named values g) (has (all_groups groups) g) (sym (has-filter (is_in kind (names_of kind found).named values) (all_groups groups) g) ∙ i)).1

    parts : ArePartsOf most (names_of kind found) (level kind groups most found)
    parts = level-parts groups most (names_of kind found) (names-order kind groups found within).distinct

    test : ℕ → Bool
    test g = literal_true values (counted kind g)

    left : List ℕ
    left = left_out most (names_of kind found)

    order : List ℕ
    order = (level kind groups most found).order

    differ : (k : Kind) → AreDistinct (seed_of k groups (read_set kind groups (names_of kind found).named values))
    differ Conflict = distinct-ascends 0 (read_set kind groups (names_of kind found).named values) is_set
    differ Correction = distinct-ascends 0 (complement groups (read_set kind groups (names_of kind found).named values)) (IsGroupSet-complement groups set (complement groups set) refl)

    held : IsSubset (seed_of kind groups (read_set kind groups (names_of kind found).named values)) (left ++ filter test order)
    held g i =
        let (there, counts) = read-counts groups (names_of kind found).named values kind g i in
        list_any-append (λ k. eqb k g) left (filter test order)
        ∙ elim (or_cases (has left g) (has order g) (sym (parts.each g) ∙ there)) [
          | inl sure ↦ or_left (has left g) (has (filter test order) g) sure
          | inr other ↦ or_right (has left g) (has (filter test order) g) (has-filter test order g ∙ and_from (test g) (has order g) counts other)
        ]

    size : size_for kind groups (read_set kind groups (names_of kind found).named values) ≤ most
    size =
        let fit = distinct-fit (seed_of kind groups set) (left ++ filter test order) (differ kind) held in
        let sizes = length-append left (filter test order) in
        let sum = parts.sum in
        omega arith

-- the clauses of a level have a derivation of what says that more count
pub explored-shown : (kind : Kind) (groups most : ℕ) (found : List Found) → AreWithin groups found → ExploredUpTo kind groups most found
    → (d : Derivation) × (shows_level kind groups most found d ≡ true)
explored-shown kind groups most found within all =
    elim (cases_Bool (ltb l.bound (length l.order))) [
      | inl more ↦
          let vars_are = cond-true (ltb l.bound (length l.order)) (counter_vars groups l.bound (length l.order)) groups more in
          let some = ltb-true l.bound (length l.order) more in
          counted more (vars_are ∙ last (length l.order) (omega arith))
      | inr none ↦
          let vars_are = cond-false (ltb l.bound (length l.order)) (counter_vars groups l.bound (length l.order)) groups none in
          let (d, shows) = derivation (level_vars l) (level_vars l) [] empty_base (level_clauses l found) (level_clauses-over l found within ordered)
          (λ values len.
          unsat values
          (subst (λ (ls : List ℤ). list_all (literal_true values) ls ≡ true)
          (sym (cond-false (ltb l.bound (length l.order)) (neg_ℤ (at_least groups l.bound (length l.order) (l.bound + 1)) ∷ []) [] none)) refl)) in
          (d, shows (is_more l) (λ lit i. absurd i))
    ]
  where
    l : Level
    l = level kind groups most found

    ordered : IsOrder groups (level kind groups most found).order
    ordered = level-order kind groups most found within

    last : (rows : ℕ) → 0 < rows → counter_vars groups (level kind groups most found).bound rows
        ≡ suc (groups + ((level kind groups most found).bound + 1) * (rows - 1) + (level kind groups most found).bound)
    last rows some =
        let split : rows ≡ rows - 1 + 1 = omega arith in
        ap (λ n. groups + ((level kind groups most found).bound + 1) * n) split ∙ (omega arith)

    empty_base : IsBase (level_vars (level kind groups most found)) (level_vars (level kind groups most found)) []
    empty_base =
        record {
          fits = omega arith;
          over = λ lit i. absurd i;
          low = λ values lit le i. absurd i;
          high = λ values lit le lt o f. let fits = o.in_range in absurd (omega arith);
        }

    unsat : (values : List Bool) → list_all (literal_true values) (level_limit (level kind groups most found)) ≡ true
        → list_all (clause_true values) (level_clauses (level kind groups most found) found) ≡ false
    unsat values limited =
        false_from_ne_true (list_all (clause_true values) (level_clauses l found))
        (λ t.
        let parts = and_parts (is_model found values) (list_all (clause_true values) (level_counter l))
        (sym (list_all-append (clause_true values) (map block_clause found) (level_counter l)) ∙ t) in
        no-model kind groups most found within all values parts.0 (level-extended l values ordered parts.1 limited))

    counted : ltb (level kind groups most found).bound (length (level kind groups most found).order) ≡ true
        → level_vars (level kind groups most found) ≡ suc (groups + ((level kind groups most found).bound + 1) * (length (level kind groups most found).order - 1) + (level kind groups most found).bound)
        → (d : Derivation) × (shows_level kind groups most found d ≡ true)
    counted more vars_are =
        let (d, shows) = derivation (level_vars l) first (goal ∷ []) base (level_clauses l found) (level_clauses-over l found within ordered)
        (λ values len. unsat values (limited values len)) in (
          d,
          shows (is_more l) allowed,
        )
      where
        first : ℕ
        first = groups + (l.bound + 1) * (length l.order - 1) + l.bound

        goal : ℤ
        goal = at_least groups l.bound (length l.order) (l.bound + 1)

        goal_is : goal ≡ pos (suc first)
        goal_is = ap pos (omega arith)

        allowed : (lit : ℤ) → In lit (goal ∷ []) → is_more l lit ≡ true
        allowed lit (inl e) = and_from (ltb l.bound (length l.order)) (int_eq goal lit) more ((Decides-int_eq goal lit).1 (sym e))
        allowed lit (inr i) = absurd i

        past : (values : List Bool) → length values ≤ first → literal_true values goal ≡ false
        past values le = ap (literal_true values) goal_is ∙ get_or_past values (suc first - 1) false (omega arith)

        limited : (values : List Bool) → length values ≡ first → list_all (literal_true values) (level_limit (level kind groups most found)) ≡ true
        limited values len =
            subst (λ (ls : List ℤ). list_all (literal_true values) ls ≡ true)
            (sym (cond-true (ltb l.bound (length l.order)) (neg_ℤ goal ∷ []) [] more))
            (and_from (literal_true values (neg_ℤ goal)) true (literal_true-neg values goal (omega arith) ∙ ap not (past values (omega arith))) refl)

        base : IsBase (level_vars l) first (goal ∷ [])
        base =
            record {
              fits = omega (arith, vars_are);
              over = λ lit i. one lit i;
              low = λ values lit le i. false_at values lit le i;
              high = λ values lit le lt o f. only values lit le lt o f;
            }
          where
            one : (lit : ℤ) → In lit (goal ∷ []) → IsLiteral (level_vars l) lit
            one lit (inl e) =
                subst (IsLiteral (level_vars l)) (sym (e ∙ goal_is)) (record { not_zero = omega arith; in_range = omega (arith, vars_are) })
            one lit (inr i) = absurd i

            false_at : (values : List Bool) (lit : ℤ) → length values ≤ first → In lit (goal ∷ []) → literal_true values lit ≡ false
            false_at values lit le (inl e) = ap (literal_true values) e ∙ past values le
            false_at values lit le (inr i) = absurd i

            only : (values : List Bool) (lit : ℤ) → length values ≤ first → first < var_of lit → IsLiteral (level_vars l) lit
                → literal_true values lit ≡ false → In lit (goal ∷ [])
            only values (pos v) le lt o f = inl (ap pos (is v lt o.in_range) ∙ sym goal_is)
              where
                is : (v : ℕ) → first < v → v ≤ level_vars l → v ≡ suc first
                is v lt le = omega (arith, vars_are)
            only values (negsuc v) le lt o f =
                absurd (false≢true (sym f ∙ ap not (get_or_past values v false (omega arith))))

-- the sets of accepted records are of the problem, so there is a derivation for them too
pub records-shown : (kind : Kind) (p : Problem) (most : ℕ) (records : List Record) → AllAccepted p records
    → ExploredUpTo kind p.groups most (founds records) → (d : Derivation) × (shows_level kind p.groups most (founds records) d ≡ true)
records-shown kind p most records accepted all = explored-shown kind p.groups most (founds records) (accepted-within p records accepted) all
