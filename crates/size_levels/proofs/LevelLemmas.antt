-- A set at which few groups count and that nothing explores would be a model of a level's clauses under its limit.
use Rattle.std.proofs.Common.{◌≡◌, ℕ, ◌+◌, ◌-◌, ◌<◌, ◌≤◌, Bool, true, false, not, ◌&&◌, ◌||◌, List, [], ◌∷◌, ◌++◌, map, length, take, get_or, refl, sym, ◌∙◌, ap, subst, inl, inr, arith, eqb, ltb, length-append}
use Rattle.std.specs.Prelude.{ℤ, pos, negsuc, neg_ℤ}
use Rattle.std.specs.Ordering.{int_eq}
use Rattle.std.specs.List.{list_all, filter}
use Rattle.std.proofs.lemmas.Bool.{false≢true, cases_Bool, and_parts, and_from, or_cases, or_parts, or_from, or_right, true_from_ne_false, not-true, not-false, cond-true, cond-false, eqb-true}
use Rattle.std.proofs.lemmas.Bool.Decides.{Decides-int_eq}
use Rattle.std.proofs.lemmas.List.{get_or-take, map_more}
use Rattle.std.proofs.lemmas.List.Folds.{list_any-append, list_all-append}
use Rattle.std.proofs.lemmas.List.FromFn.{get_or-map-range_with_len}
use Rattle.sat_base.specs.Members.{In}
use Rattle.sat_base.specs.Literals.{IsLiteral, literal_true, clause_true}
use Rattle.sat_base.specs.Derivation.{Derivation, numbered}
use Rattle.sat_base.proofs.Members.{In-append_cases, In-from_map}
use Rattle.sat_base.proofs.FollowsLemmas.{literal_true-neg}
use Rattle.sat_base.proofs.Soundness.{AllGood, derives-sound}
use Rattle.gm_base.specs.Sets.{has, IsGroupSet, IsSubset, all_groups, complement}
use Rattle.gm_base.specs.Problem.{Problem}
use Rattle.gm_base.specs.declared.kind.Kind.{Kind}
use Rattle.gm_base.specs.declared.kind.Kind.TheVariants.{Conflict, Correction}
use Rattle.gm_base.specs.Explored.{Found, explores, is_explored, is_model, block_clause}
use Rattle.gm_base.proofs.SetLemmas.{all_groups-has, has-filter, has-complement-from, has-head}
use Rattle.gm_base.proofs.ExploredLemmas.{AreWithin, values_of, length-values_of, groups_true-values_of, is_model-not_explored}
use Rattle.evidence_rec.specs.declared.record.Record.{Record}
use Rattle.evidence_rec.specs.Records.{kind_of, set_of, found_of, founds, AllAccepted, AllAcceptedBehind}
use Rattle.evidence_rec.proofs.BlockLemmas.{block_clause-literal}
use Rattle.size_counter.specs.Sizes.{AreDistinct, seed_of, size_for}
use Rattle.size_counter.specs.Counter.{counted, at_least, counter_vars, how_many_count, IsOrder}
use Rattle.size_counter.specs.Names.{Naming, against, alone_in, also, names_of}
use Rattle.size_counter.specs.Levels.{Level, left_out, level, level_counter, level_vars, level_limit}
use Rattle.size_counter.specs.LevelLaws.{ArePartsOf}
use Rattle.size_counter.proofs.SizeLemmas.{distinct-fit, distinct-filter}
use Rattle.size_counter.proofs.NameLemmas.{names_of-grows}
use Rattle.size_counter.proofs.LevelLemmas.{level-few, level-over, level-parts, level-order, names-order}
use Rattle.size_levels.specs.Sizes.{ExploredUpTo}
use Rattle.size_levels.specs.Shown.{is_more, level_clauses, shows_level}

-- literals over the groups are alike where the values of the groups are
literal-alike : (groups : ℕ) (assign values : List Bool) (l : ℤ) → take groups values ≡ assign → IsLiteral groups l
    → literal_true values l ≡ literal_true assign l
literal-alike groups assign values (pos v) same i =
    let low = i.not_zero in
    let high = i.in_range in
    sym (get_or-take groups values (v - 1) false (omega arith)) ∙ ap (λ vs. get_or vs (v - 1) false) same
literal-alike groups assign values (negsuc v) same i =
    let high = i.in_range in
    ap not (sym (get_or-take groups values v false (omega arith)) ∙ ap (λ vs. get_or vs v false) same)

-- so clauses over the groups are alike
clause-alike : (groups : ℕ) (assign values : List Bool) (clause : List ℤ) → take groups values ≡ assign
    → ((l : ℤ) → In l clause → IsLiteral groups l) → clause_true values clause ≡ clause_true assign clause
clause-alike groups assign values [] same over = refl
clause-alike groups assign values (l ∷ ls) same over =
    ap (λ b. b || clause_true values ls) (literal-alike groups assign values l same (over l (inl refl)))
    ∙ ap (λ b. literal_true assign l || b) (clause-alike groups assign values ls same (λ m i. over m (inr i)))

-- and so are all blocks, of which each is over the groups
pub model-alike : (groups : ℕ) (assign values : List Bool) (found : List Found) → take groups values ≡ assign → AreWithin groups found
    → is_model found values ≡ is_model found assign
model-alike groups assign values [] same within = refl
model-alike groups assign values (f ∷ fs) same within =
    ap (λ b. b && is_model fs values)
    (clause-alike groups assign values (block_clause f) same (λ l i. block_clause-literal groups f l (within f (inl refl)) i))
    ∙ ap (λ b. clause_true assign (block_clause f) && b) (model-alike groups assign values fs same (λ g i. within g (inr i)))

-- clauses that are true, with their numbers
good-all : (vars : ℕ) (values : List Bool) (from : ℕ) (clauses : List (List ℤ)) → list_all (clause_true values) clauses ≡ true
    → ((clause : List ℤ) (l : ℤ) → In clause clauses → In l clause → IsLiteral vars l) → AllGood vars values (numbered from clauses)
good-all vars values from [] all over = tt
good-all vars values from (c ∷ cs) all over =
    let parts = and_parts (clause_true values c) (list_all (clause_true values) cs) all in
    ((parts.0, λ l i. over c l (inl refl) i), good-all vars values (from + 1) cs parts.1 (λ clause l i j. over clause l (inr i) j))

-- a literal over some variables is over more of them too
wider : (groups vars : ℕ) (l : ℤ) → groups ≤ vars → IsLiteral groups l → IsLiteral vars l
wider groups vars l le i = record { not_zero = i.not_zero; in_range = let high = i.in_range in omega arith }

-- a level has the variables of the groups, with a counter or without
pub groups-fit : (l : Level) → l.groups ≤ level_vars l
groups-fit l =
    elim (cases_Bool (ltb l.bound (length l.order))) [
      | inl more ↦
          let is = cond-true (ltb l.bound (length l.order)) (counter_vars l.groups l.bound (length l.order)) l.groups more in
          subst (λ n. l.groups ≤ n) (sym is) (omega arith)
      | inr none ↦
          let is = cond-false (ltb l.bound (length l.order)) (counter_vars l.groups l.bound (length l.order)) l.groups none in
          subst (λ n. l.groups ≤ n) (sym is) (omega arith)
    ]

-- each literal of a level's clauses is over its variables
pub level_clauses-over : (l : Level) (found : List Found) → AreWithin l.groups found → IsOrder l.groups l.order
    → (clause : List ℤ) (lit : ℤ) → In clause (level_clauses l found) → In lit clause → IsLiteral (level_vars l) lit
level_clauses-over l found within o clause lit i j =
    elim (In-append_cases clause (map block_clause found) (level_counter l) i) [
      | inl block ↦
          let (f, there, is) = In-from_map block_clause clause found block in
          wider l.groups (level_vars l) lit (groups-fit l) (block_clause-literal l.groups f lit (within f there) (subst (In lit) is j))
      | inr count ↦ level-over l clause lit o count j
    ]

-- what is counted of a group of the problem, read in a set
value-of : (groups : ℕ) (set : List ℕ) (g : ℕ) → has (all_groups groups) g ≡ true → literal_true (values_of groups set) (pos g) ≡ has set g
value-of groups set g all =
    let (low, high) = all_groups-has groups g all in
    get_or-map-range_with_len (has set) 1 groups (g - 1) g false (omega arith) (omega arith)

-- if it is true, the group is in the set at which a minimal set of the kind is found
counted-seed : (groups : ℕ) (set : List ℕ) (kind : Kind) (g : ℕ) → has (all_groups groups) g ≡ true
    → literal_true (values_of groups set) (counted kind g) ≡ true → has (seed_of kind groups set) g ≡ true
counted-seed groups set Conflict g all t = sym (value-of groups set g all) ∙ t
counted-seed groups set Correction g all t =
    let (low, high) = all_groups-has groups g all in
    has-complement-from groups set g all
    (not-true (has set g) (sym (literal_true-neg (values_of groups set) (pos g) low ∙ ap not (value-of groups set g all)) ∙ t))

-- a group that stands alone in a set of the other kind counts where that set explores nothing
one-counts : (groups : ℕ) (set : List ℕ) (g : ℕ) (kind other : Kind) (s : List ℕ) → IsSubset s (all_groups groups)
    → explores (record { kind = other; set = s }) set ≡ false → has (alone_in (against kind other s)) g ≡ true
    → has (seed_of kind groups set) g ≡ true
one-counts groups set g Conflict Conflict s within out h = absurd (false≢true h)
one-counts groups set g Correction Correction s within out h = absurd (false≢true h)
one-counts groups set g Conflict Correction [] within out h = absurd (false≢true h)
one-counts groups set g Conflict Correction (a ∷ b ∷ cs) within out h = absurd (false≢true h)
one-counts groups set g Conflict Correction (a ∷ []) within out h =
    subst (λ k. has set k ≡ true) (eqb-true a g (or_false (eqb a g) h)) (not-false (has set a) (and_true (not (has set a)) out))
  where
    or_false : (b : Bool) → (b || false) ≡ true → b ≡ true
    or_false true e = refl
    or_false false e = absurd (false≢true e)

    and_true : (b : Bool) → (b && true) ≡ false → b ≡ false
    and_true true e = absurd (false≢true (sym e))
    and_true false e = refl
one-counts groups set g Correction Conflict [] within out h = absurd (false≢true h)
one-counts groups set g Correction Conflict (a ∷ b ∷ cs) within out h = absurd (false≢true h)
one-counts groups set g Correction Conflict (a ∷ []) within out h =
    subst (λ k. has (complement groups set) k ≡ true) (eqb-true a g (or_false (eqb a g) h))
    (has-complement-from groups set a (within a (has-head a [])) (and_true (has set a) out))
  where
    or_false : (b : Bool) → (b || false) ≡ true → b ≡ true
    or_false true e = refl
    or_false false e = absurd (false≢true e)

    and_true : (b : Bool) → (b && true) ≡ false → b ≡ false
    and_true true e = absurd (false≢true (sym e))
    and_true false e = refl

-- the same of all sets that were found, where none of them explores it
pub alone-counts : (kind : Kind) (groups : ℕ) (found : List Found) (set : List ℕ) (g : ℕ) → AreWithin groups found
    → is_explored found set ≡ false → has (names_of kind found).alone g ≡ true → has (seed_of kind groups set) g ≡ true
alone-counts kind groups [] set g within out h = absurd (false≢true h)
alone-counts kind groups (f ∷ fs) set g within out h =
    let parts = or_parts (explores f set) (is_explored fs set) out in
    elim (or_cases (has (alone_in (against kind f.kind f.set)) g) (has (names_of kind fs).alone g)
    (sym (list_any-append (λ k. eqb k g) (alone_in (against kind f.kind f.set)) (names_of kind fs).alone) ∙ h)) [
      | inl here ↦ one-counts groups set g kind f.kind f.set (within f (inl refl)) parts.0 here
      | inr later ↦ alone-counts kind groups fs set g (λ e i. within e (inr i)) parts.1 later
    ]

-- lists without a common number
pub distinct-append : (xs ys : List ℕ) → AreDistinct xs → AreDistinct ys → ((g : ℕ) → has xs g ≡ true → has ys g ≡ false)
    → AreDistinct (xs ++ ys)
distinct-append [] ys a b apart = b
distinct-append (x ∷ xs) ys a b apart = (
  list_any-append (λ k. eqb k x) xs ys ∙ or_from (has xs x) (has ys x) a.0 (apart x (has-head x xs)),
  distinct-append xs ys a.1 b (λ g i. apart g (or_right (eqb x g) (has xs g) i)),
)

-- at a set that nothing explores, and at which at most so many groups count, at most the bound count of those in the order
few-counted : (kind : Kind) (groups most : ℕ) (found : List Found) (set : List ℕ) → AreWithin groups found
    → is_explored found set ≡ false → size_for kind groups set ≤ most
    → how_many_count (values_of groups set) kind (level kind groups most found).order ≤ (level kind groups most found).bound
few-counted kind groups most found set within out few =
    let all = distinct-fit (left ++ kept) (seed_of kind groups set) differ inside in
    let sizes = length-append left kept in
    let sum = parts.sum in
    omega arith
  where
    names : Naming
    names = names_of kind found

    left : List ℕ
    left = left_out most (names_of kind found)

    order : List ℕ
    order = (level kind groups most found).order

    test : ℕ → Bool
    test g = literal_true (values_of groups set) (counted kind g)

    kept : List ℕ
    kept = filter (λ g. literal_true (values_of groups set) (counted kind g)) (level kind groups most found).order

    ordered : IsOrder groups (level kind groups most found).order
    ordered = level-order kind groups most found within

    parts : ArePartsOf most (names_of kind found) (level kind groups most found)
    parts = level-parts groups most (names_of kind found) (names-order kind groups found within).distinct

    of_kept : (g : ℕ) → has kept g ≡ true → (test g ≡ true) × (has order g ≡ true)
    of_kept g i = and_parts (test g) (has order g) (sym (has-filter test order g) ∙ i)

    differ : AreDistinct (left ++ kept)
    differ =
        distinct-append left kept parts.distinct (distinct-filter test order ordered.distinct)
        (λ g i. has-filter test order g ∙ ap (λ b. test g && b) (parts.apart g i) ∙ and_false (test g))
      where
        and_false : (b : Bool) → (b && false) ≡ false
        and_false true = refl
        and_false false = refl

    inside : IsSubset (left ++ kept) (seed_of kind groups set)
    inside g i =
        elim (or_cases (has left g) (has kept g) (sym (list_any-append (λ k. eqb k g) left kept) ∙ i)) [
          | inl sure ↦ alone-counts kind groups found set g within out (parts.sure g sure)
          | inr counts ↦
              let of = of_kept g counts in
              counted-seed groups set kind g (ordered.within g of.1) of.0
        ]

-- "more than the bound count" is false where the limit is true
more-false : (l : Level) (values : List Bool) (lit : ℤ) → list_all (literal_true values) (level_limit l) ≡ true
    → is_more l lit ≡ true → literal_true values lit ≡ false
more-false l values lit limited more =
    let parts = and_parts (ltb l.bound (length l.order)) (int_eq (at_least l.groups l.bound (length l.order) (l.bound + 1)) lit) more in
    let last = at_least l.groups l.bound (length l.order) (l.bound + 1) in
    let is = cond-true (ltb l.bound (length l.order)) (neg_ℤ last ∷ []) [] parts.0 in
    let denied = (and_parts (literal_true values (neg_ℤ last)) true (subst (λ lits. list_all (literal_true values) lits ≡ true) is limited)).0 in
    ap (literal_true values) (sym ((Decides-int_eq last lit).0 parts.1))
    ∙ not-true (literal_true values last) (sym (literal_true-neg values last (omega arith)) ∙ denied)

-- if nothing explored such a set, the clauses would be true under values that make each goal false
pub level-explores : (kind : Kind) (groups most : ℕ) (found : List Found) (d : Derivation) → AreWithin groups found
    → shows_level kind groups most found d ≡ true → ExploredUpTo kind groups most found
level-explores kind groups most found d within shown =
    record { explored = λ set ok inside few. true_from_ne_false (is_explored found set) (no_model set ok inside few) }
  where
    l : Level
    l = level kind groups most found

    ordered : IsOrder groups (level kind groups most found).order
    ordered = level-order kind groups most found within

    no_model : (set : List ℕ) → IsGroupSet set → IsSubset set (all_groups groups) → size_for kind groups set ≤ most → is_explored found set ≡ false → ⊥
    no_model set ok inside few unexplored =
        let assign = values_of groups set in
        let total = length-values_of groups set in
        let (values, e) = level-few l assign ordered total (few-counted kind groups most found set within unexplored few) in
        let shape = is_model-not_explored found assign (subst (λ n. AreWithin n found) (sym total) within) in
        let read = ap not (ap (is_explored found) (groups_true-values_of groups set ok inside) ∙ unexplored) in
        let blocks : is_model found values ≡ true = model-alike groups assign values found e.agrees within ∙ (shape ∙ read) in
        let all : list_all (clause_true values) (level_clauses l found) ≡ true =
        list_all-append (clause_true values) (map block_clause found) (level_counter l)
        ∙ and_from (is_model found values) (list_all (clause_true values) (level_counter l)) blocks e.clauses_true in
        let (lit, allowed, made, literal) =
        derives-sound (level_vars l) values (level_clauses l found) d (is_more l)
        (good-all (level_vars l) values 1 (level_clauses l found) all (level_clauses-over l found within ordered)) shown in
        false≢true (sym (more-false l values lit e.limit_true allowed) ∙ made)

-- each record is accepted behind those before it, and so its set is of the problem
within_of : (p : Problem) (earlier rs : List Record) → AllAcceptedBehind p earlier rs → AreWithin p.groups (founds rs)
within_of p earlier [] all f i = absurd i
within_of p earlier (r ∷ rs) all f (inl e) = subst (λ (g : Found). IsSubset g.set (all_groups p.groups)) (sym e) all.0.within
within_of p earlier (r ∷ rs) all f (inr i) = within_of p (earlier ++ r ∷ []) rs all.1 f i

-- accepted records are about groups of the problem
pub accepted-within : (p : Problem) (records : List Record) → AllAccepted p records → AreWithin p.groups (founds records)
accepted-within p records accepted = within_of p [] records accepted

-- so what holds of sets of the problem holds of the sets of accepted records
pub level-of_records : (kind : Kind) (p : Problem) (most : ℕ) (records : List Record) (d : Derivation) → AllAccepted p records
    → shows_level kind p.groups most (founds records) d ≡ true → ExploredUpTo kind p.groups most (founds records)
level-of_records kind p most records d accepted shown = level-explores kind p.groups most (founds records) d (accepted-within p records accepted) shown

-- what records name, with one record more
pub names_of-more : (kind : Kind) (records : List Record) (i : ℕ) (r : Record) → i < length records → r ≡ get_or records i r
    → names_of kind (founds (take (i + 1) records)) ≡ also (names_of kind (founds (take i records))) (kind_of r) (set_of r)
names_of-more kind records i r lt is =
    ap (names_of kind) (map_more found_of records i r lt ∙ ap (λ x. founds (take i records) ++ found_of x ∷ []) (sym is))
    ∙ names_of-grows kind (founds (take i records)) (found_of r)
