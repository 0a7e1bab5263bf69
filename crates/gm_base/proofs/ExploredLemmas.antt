-- The map: an assignment makes the block clauses of what was found true just where, read as a set, nothing explores it;
-- and each set is read from some assignment.
use Rattle.std.proofs.Common.{◌≡◌, ℕ, zero, suc, ◌-◌, Bool, true, false, not, ◌&&◌, ◌||◌, List, [], ◌∷◌, map, length, get_or, refl, sym, ◌∙◌, ap, subst, inl, inr, arith, eqb}
use Rattle.std.specs.Prelude.{ℤ, pos, neg_ℤ, ◌↔◌}
use Rattle.std.specs.List.{list_all}
use Rattle.std.proofs.lemmas.Bool.{or_right, and_parts, not-true, not-false}
use Rattle.std.proofs.lemmas.List.FromFn.{length-map-range_with_len, get_or-map-range_with_len}
use Rattle.gm_base.specs.declared.kind.Kind.{Kind}
use Rattle.gm_base.specs.declared.kind.Kind.TheVariants.{Conflict, Correction}
use Rattle.gm_base.specs.Sets.{has, all_groups, IsGroupSet, IsSubset}
use Rattle.sat_base.specs.Literals.{literal_true, clause_true}
use Rattle.sat_base.specs.Members.{In}
use Rattle.gm_base.specs.Explored.{Found, explores, is_explored, block_clause, IsUnexplored, AllExplored, groups_true, is_model}
use Rattle.gm_base.proofs.SetLemmas.{AscendsAbove-filter, AscendsAbove-range, AscendsAbove-same, has-filter, has-head, all_groups-has}

-- each set that was found is of these groups
abbrev pub AreWithin : ℕ → List Found → Type 0
AreWithin groups found = (f : Found) → In f found → IsSubset f.set (all_groups groups)

-- a group is in the set that an assignment is read as just where its variable is true
pub has-groups_true : (assign : List Bool) (g : ℕ) → has (all_groups (length assign)) g ≡ true
    → has (groups_true assign) g ≡ get_or assign (g - 1) false
has-groups_true assign g all =
    has-filter (λ h. get_or assign (h - 1) false) (all_groups (length assign)) g
    ∙ ap (λ b. get_or assign (g - 1) false && b) all ∙ and_true (get_or assign (g - 1) false)
  where
    and_true : (b : Bool) → (b && true) ≡ b
    and_true true = refl
    and_true false = refl

pub IsGroupSet-groups_true : (assign : List Bool) → IsGroupSet (groups_true assign)
IsGroupSet-groups_true assign =
    AscendsAbove-filter (λ g. get_or assign (g - 1) false) 0 (all_groups (length assign)) (AscendsAbove-range 0 (length assign))

pub IsSubset-groups_true : (assign : List Bool) → IsSubset (groups_true assign) (all_groups (length assign))
IsSubset-groups_true assign g i =
    (and_parts (get_or assign (g - 1) false) (has (all_groups (length assign)) g)
    (sym (has-filter (λ h. get_or assign (h - 1) false) (all_groups (length assign)) g) ∙ i)).1

-- the literal of a group in, and that of a group out
literal_in : (assign : List Bool) (g : ℕ) → has (all_groups (length assign)) g ≡ true
    → literal_true assign (pos g) ≡ has (groups_true assign) g
literal_in assign g all = sym (has-groups_true assign g all)

literal_out : (assign : List Bool) (g : ℕ) → has (all_groups (length assign)) g ≡ true
    → literal_true assign (neg_ℤ (pos g)) ≡ not (has (groups_true assign) g)
literal_out assign zero all = absurd (let low = (all_groups-has (length assign) zero all).0 in omega arith)
literal_out assign (suc v) all =
    let place : v ≡ suc v - 1 = omega arith in
    ap (λ n. not (get_or assign n false)) place ∙ ap not (sym (has-groups_true assign (suc v) all))

-- a clause is true where not all groups of the set pass the test that its literals deny
clause-not_all : (assign : List Bool) (lit : ℕ → ℤ) (test : ℕ → Bool) (set : List ℕ)
    → ((g : ℕ) → has set g ≡ true → literal_true assign (lit g) ≡ not (test g))
    → clause_true assign (map lit set) ≡ not (list_all test set)
clause-not_all assign lit test [] each = refl
clause-not_all assign lit test (g ∷ gs) each =
    ap (λ b. b || clause_true assign (map lit gs)) (each g (has-head g gs))
    ∙ ap (λ b. not (test g) || b) (clause-not_all assign lit test gs (λ h i. each h (or_right (eqb g h) (has gs h) i)))
    ∙ de_morgan (test g) (list_all test gs)
  where
    de_morgan : (x y : Bool) → (not x || not y) ≡ not (x && y)
    de_morgan true y = refl
    de_morgan false y = refl

-- the block clause of what was found is true just where it does not explore the set
pub block_clause-true : (assign : List Bool) (f : Found) → IsSubset f.set (all_groups (length assign))
    → clause_true assign (block_clause f) ≡ not (explores f (groups_true assign))
block_clause-true assign f within = by f.kind
  where
    of : Kind → Found
    of kind = record { kind = kind; set = f.set }

    by : (kind : Kind) → clause_true assign (block_clause (of kind)) ≡ not (explores (of kind) (groups_true assign))
    by Conflict = clause-not_all assign (λ g. neg_ℤ (pos g)) (has (groups_true assign)) f.set (λ g i. literal_out assign g (within g i))
    by Correction =
        clause-not_all assign pos (λ g. not (has (groups_true assign) g)) f.set
        (λ g i. literal_in assign g (within g i) ∙ not_not (has (groups_true assign) g))
      where
        not_not : (b : Bool) → b ≡ not (not b)
        not_not true = refl
        not_not false = refl

-- an assignment is a model just where nothing explores the set that it is read as
pub is_model-not_explored : (found : List Found) (assign : List Bool) → AreWithin (length assign) found
    → is_model found assign ≡ not (is_explored found (groups_true assign))
is_model-not_explored [] assign within = refl
is_model-not_explored (f ∷ fs) assign within =
    ap (λ b. b && is_model fs assign) (block_clause-true assign f (within f (inl refl)))
    ∙ ap (λ b. not (explores f (groups_true assign)) && b) (is_model-not_explored fs assign (λ g i. within g (inr i)))
    ∙ de_morgan (explores f (groups_true assign)) (is_explored fs (groups_true assign))
  where
    de_morgan : (x y : Bool) → (not x && not y) ≡ not (x || y)
    de_morgan true y = refl
    de_morgan false y = refl

-- models are the sets that nothing explores
pub models-unexplored : (groups : ℕ) (found : List Found) (assign : List Bool) → AreWithin groups found
    → length assign ≡ groups
    → (is_model found assign ≡ true) ↔ (is_explored found (groups_true assign) ≡ false)
models-unexplored groups found assign within len =
    let is = is_model-not_explored found assign (subst (λ n. AreWithin n found) (sym len) within) in (
      λ model. not-true (is_explored found (groups_true assign)) (sym is ∙ model),
      λ unexplored. is ∙ ap not unexplored,
    )

-- a model read as a set is a set that nothing explores
pub IsUnexplored-from_model : (groups : ℕ) (found : List Found) (assign : List Bool) → AreWithin groups found
    → length assign ≡ groups → is_model found assign ≡ true → IsUnexplored groups found (groups_true assign)
IsUnexplored-from_model groups found assign within len model =
    record {
      is_set = IsGroupSet-groups_true assign;
      within = subst (λ n. IsSubset (groups_true assign) (all_groups n)) len (IsSubset-groups_true assign);
      unexplored = (models-unexplored groups found assign within len).0 model;
    }

-- the assignment that is read as the set
abbrev pub values_of : ℕ → List ℕ → List Bool
values_of groups set = map (has set) (all_groups groups)

pub length-values_of : (groups : ℕ) (set : List ℕ) → length (values_of groups set) ≡ groups
length-values_of groups set = length-map-range_with_len (has set) 1 groups

has-groups_true-values_of : (groups : ℕ) (set : List ℕ) (g : ℕ) → has (all_groups groups) g ≡ true
    → has (groups_true (values_of groups set)) g ≡ has set g
has-groups_true-values_of groups set g all =
    let (low, high) = all_groups-has groups g all in
    has-groups_true (values_of groups set) g
    (subst (λ n. has (all_groups n) g ≡ true) (sym (length-values_of groups set)) all)
    ∙ get_or-map-range_with_len (has set) 1 groups (g - 1) g false (omega arith) (omega arith)

-- each set of these groups is read from its assignment
pub groups_true-values_of : (groups : ℕ) (set : List ℕ) → IsGroupSet set → IsSubset set (all_groups groups)
    → groups_true (values_of groups set) ≡ set
groups_true-values_of groups set ok within =
    let values = values_of groups set in
    let inside : IsSubset (groups_true values) (all_groups groups) =
    subst (λ n. IsSubset (groups_true values) (all_groups n)) (length-values_of groups set) (IsSubset-groups_true values) in
    AscendsAbove-same 0 (groups_true values) set (IsGroupSet-groups_true values) ok
    (λ g i. sym (has-groups_true-values_of groups set g (inside g i)) ∙ i)
    (λ g i. has-groups_true-values_of groups set g (within g i) ∙ i)

-- where no assignment is a model, each set is explored
pub all_explored-no_model : (groups : ℕ) (found : List Found) → AreWithin groups found
    → ((assign : List Bool) → length assign ≡ groups → is_model found assign ≡ false) → AllExplored groups found
all_explored-no_model groups found within none =
    record {
      explored = λ set ok inside.
          let values = values_of groups set in
          let len = length-values_of groups set in
          subst (λ s. is_explored found s ≡ true) (groups_true-values_of groups set ok inside)
          (not-false (is_explored found (groups_true values))
          (sym (is_model-not_explored found values (subst (λ n. AreWithin n found) (sym len) within)) ∙ none values len));
    }
