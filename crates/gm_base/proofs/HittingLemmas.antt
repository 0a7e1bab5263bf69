-- Minimal conflicts and minimal corrections are each other's minimal hitting sets. Both are the least sets that pass a
-- test which larger sets pass too, and a set passes one of the tests just where its complement fails the other.
use Rattle.std.proofs.Common.{◌≡◌, ◌⊎◌, ℕ, Bool, true, false, not, List, [], ◌∷◌, refl, sym, ◌∙◌, ap, inl, inr, eqb}
use Rattle.std.proofs.Math.Bool.{not-not}
use Rattle.std.specs.Prelude.{◌↔◌}
use Rattle.std.specs.List.{list_any, filter}
use Rattle.std.proofs.lemmas.Bool.{or_cases, false≢true, cases_Bool, false_from_ne_true, not-true, not-false, and_parts, and_from, eqb-true, eqb-false, eq-eqb}
use Rattle.gm_base.specs.Sets.{has, IsSubset, IsProperSubset, IsGroupSet, without, complement, all_groups}
use Rattle.gm_base.specs.Problem.{Problem}
use Rattle.gm_base.specs.Minimal.{IsConflict, IsCorrection, is_sat}
use Rattle.gm_base.specs.Laws.{IsSetOf, AreDisjoint, HitsConflicts, HitsCorrections, IsMinimalHitting}
use Rattle.sat_base.proofs.Members.{any_at, any_from}
use Rattle.gm_base.proofs.SetLemmas.{AscendsAbove-filter, AscendsAbove-range, IsGroupSet-complement, has-filter, has-without, has-complement-parts, has-complement-from, IsSubset-complement_twice, complement_twice-IsSubset}
use Rattle.gm_base.proofs.SatLemmas.{Sat-subset, Sat-from_test, test-from_Sat, unsat-from_test, test-from_unsat}
use Rattle.gm_base.proofs.Singles.{IsSubset-without, IsSubset-complement}

-- larger sets pass the test too
abbrev IsKept : (List ℕ → Bool) → Type 0
IsKept test = (small large : List ℕ) → IsSubset small large → test small ≡ true → test large ≡ true

-- the set passes the test, and no proper subset does
record IsLeast (test : List ℕ → Bool) (set : List ℕ) : Type 0 where
  passes : test set ≡ true
  minimal : (part : List ℕ) → IsProperSubset part set → test part ≡ false

-- an ascending set of these groups
abbrev IsSetWithin : ℕ → List ℕ → Type 0
IsSetWithin groups set = IsGroupSet set × IsSubset set (all_groups groups)

IsLeast-from_singles : (test : List ℕ → Bool) (set : List ℕ) → IsKept test → test set ≡ true
    → ((g : ℕ) → has set g ≡ true → test (without set g) ≡ false) → IsLeast test set
IsLeast-from_singles test set kept passes singles =
    record {
      passes = passes;
      minimal = λ part proper.
          let (g, inside, out) = proper.1 in
          false_from_ne_true (test part)
          (λ t. false≢true (sym (singles g inside) ∙ kept part (without set g) (IsSubset-without part set g proper.0 out) t));
    }

-- what is left of a set where the groups to do were taken out one by one, each if the rest still passed
record IsShrunk (test : List ℕ → Bool) (to_do set left : List ℕ) : Type 0 where
  is_set : IsGroupSet left
  passes : test left ≡ true
  inside : IsSubset left set
  needed : (g : ℕ) → has to_do g ≡ true → has left g ≡ true → test (without left g) ≡ false

IsSubset-without_both : (small large : List ℕ) (g : ℕ) → IsSubset small large
    → IsSubset (without small g) (without large g)
IsSubset-without_both small large g sub h i =
    let parts = and_parts (not (eqb h g)) (has small h) (sym (has-without small g h) ∙ i) in
    has-without large g h ∙ and_from (not (eqb h g)) (has large h) parts.0 (sub h parts.1)

-- the next group is taken out
shrunk-without : (test : List ℕ → Bool) (g : ℕ) (gs set left : List ℕ) → IsShrunk test gs (without set g) left
    → IsShrunk test (g ∷ gs) set left
shrunk-without test g gs set left s =
    record {
      is_set = s.is_set;
      passes = s.passes;
      inside = λ h i. (and_parts (not (eqb h g)) (has set h) (sym (has-without set g h) ∙ s.inside h i)).1;
      needed = λ h to_do i.
          elim (or_cases (eqb g h) (has gs h) to_do) [
            | inl here ↦
                let parts = and_parts (not (eqb h g)) (has set h) (sym (has-without set g h) ∙ s.inside h i) in
                absurd (eqb-false h g (not-true (eqb h g) parts.0) (sym (eqb-true g h here)))
            | inr later ↦ s.needed h later i
          ];
    }

-- the next group stays
shrunk-with : (test : List ℕ → Bool) (g : ℕ) (gs set left : List ℕ) → IsKept test → test (without set g) ≡ false
    → IsShrunk test gs set left → IsShrunk test (g ∷ gs) set left
shrunk-with test g gs set left kept fails s =
    record {
      is_set = s.is_set;
      passes = s.passes;
      inside = s.inside;
      needed = λ h to_do i.
          elim (or_cases (eqb g h) (has gs h) to_do) [
            | inl here ↦
                let same : test (without set h) ≡ false = ap (λ n. test (without set n)) (sym (eqb-true g h here)) ∙ fails in
                let sub = IsSubset-without_both left set h s.inside in
                false_from_ne_true (test (without left h)) (λ t. false≢true (sym same ∙ kept (without left h) (without set h) sub t))
            | inr later ↦ s.needed h later i
          ];
    }

shrink : (test : List ℕ → Bool) (to_do set : List ℕ) → IsKept test → IsGroupSet set → test set ≡ true
    → (left : List ℕ) × IsShrunk test to_do set left
shrink test [] set kept ok passes =
    (set, record { is_set = ok; passes = passes; inside = λ g i. i; needed = λ g none i. absurd (false≢true none) })
shrink test (g ∷ gs) set kept ok passes =
    elim (cases_Bool (test (without set g))) [
      | inl more ↦
          let (left, s) = shrink test gs (without set g) kept (AscendsAbove-filter (λ h. not (eqb h g)) 0 set ok) more in
          (left, shrunk-without test g gs set left s)
      | inr fails ↦ let (left, s) = shrink test gs set kept ok passes in (left, shrunk-with test g gs set left kept fails s)
    ]

-- a set that passes holds a least one
least_inside : (test : List ℕ → Bool) (set : List ℕ) → IsKept test → IsGroupSet set → test set ≡ true
    → (least : List ℕ) × IsGroupSet least × IsLeast test least × IsSubset least set
least_inside test set kept ok passes =
    let (left, s) = shrink test set set kept ok passes in
    (left, s.is_set, IsLeast-from_singles test left kept s.passes (λ g i. s.needed g (s.inside g i) i), s.inside)

-- two tests that larger sets pass too, and a set passes one just where its complement fails the other
record AreDual (groups : ℕ) (one other : List ℕ → Bool) : Type 0 where
  one_kept : IsKept one
  other_kept : IsKept other
  one_is : (set : List ℕ) → IsSubset set (all_groups groups) → one set ≡ not (other (complement groups set))
  other_is : (set : List ℕ) → IsSubset set (all_groups groups) → other set ≡ not (one (complement groups set))

AreDual-sym : (groups : ℕ) (one other : List ℕ → Bool) → AreDual groups one other → AreDual groups other one
AreDual-sym groups one other d =
    record { one_kept = d.other_kept; other_kept = d.one_kept; one_is = d.other_is; other_is = d.one_is }

-- each set holds a least set of the one test, or misses a least set of the other
least-held_or_missed : (groups : ℕ) (one other : List ℕ → Bool) (set : List ℕ) → AreDual groups one other
    → IsSubset set (all_groups groups)
    → ((u : List ℕ) × IsSetWithin groups u × IsLeast one u × IsSubset u set)
    ⊎ ((c : List ℕ) × IsSetWithin groups c × IsLeast other c × AreDisjoint c set)
least-held_or_missed groups one other set d within =
    elim (cases_Bool (one set)) [
      | inl passes ↦
          let start = filter (has set) (all_groups groups) in
          let is = has-filter (has set) (all_groups groups) in
          let there : IsSubset set start = λ g i. is g ∙ and_from (has set g) (has (all_groups groups) g) i (within g i) in
          let back : IsSubset start set = λ g i. (and_parts (has set g) (has (all_groups groups) g) (sym (is g) ∙ i)).0 in
          let ascends = AscendsAbove-filter (has set) 0 (all_groups groups) (AscendsAbove-range 0 groups) in
          let (u, is_set, least, inside) = least_inside one start d.one_kept ascends (d.one_kept set start there passes) in
          inl (u, (is_set, λ g i. within g (back g (inside g i))), least, λ g i. back g (inside g i))
      | inr fails ↦
          let rest = complement groups set in
          let passes : other rest ≡ true = not-false (other rest) (sym (d.one_is set within) ∙ fails) in
          let ascends = IsGroupSet-complement groups set rest refl in
          let (c, is_set, least, inside) = least_inside other rest d.other_kept ascends passes in
          inr (
            c,
            (is_set, λ g i. (has-complement-parts groups set g (inside g i)).1),
            least,
            λ g i. (has-complement-parts groups set g (inside g i)).0,
          )
    ]

-- two sets have no group in common, or they meet
disjoint_or_meet : (a b : List ℕ) → AreDisjoint a b ⊎ ((g : ℕ) × (has a g ≡ true) × (has b g ≡ true))
disjoint_or_meet a b =
    elim (cases_Bool (list_any (has b) a)) [
      | inl some ↦
          let (g, i, h) = any_from (has b) a some in
          inr (g, any_at (λ k. eqb k g) a g i (eq-eqb g g refl), h)
      | inr none ↦
          inl
          (λ g i.
          let (x, here, e) = any_from (λ k. eqb k g) a i in
          false_from_ne_true (has b g) (λ h. false≢true (sym none ∙ any_at (has b) a x here (ap (has b) (eqb-true x g e) ∙ h))))
    ]

-- a set that passes the one test meets a set that passes the other: else it would be within that set's complement
meet : (groups : ℕ) (one other : List ℕ → Bool) (set c : List ℕ) → AreDual groups one other
    → IsSubset set (all_groups groups) → IsSubset c (all_groups groups)
    → one set ≡ true → other c ≡ true → (g : ℕ) × (has c g ≡ true) × (has set g ≡ true)
meet groups one other set c d within c_within passes c_passes =
    elim (disjoint_or_meet c set) [
      | inr met ↦ met
      | inl apart ↦
          let rest = complement groups c in
          let outside : IsSubset set rest = λ g i.
          has-complement-from groups c g (within g i) (false_from_ne_true (has c g) (λ h. false≢true (sym (apart g h) ∙ i))) in
          let fails : other c ≡ false = d.other_is c c_within ∙ ap not (d.one_kept set rest outside passes) in
          absurd (false≢true (sym fails ∙ c_passes))
    ]

-- the set has a group of each of these sets
abbrev HitsEach : ℕ → (List ℕ → Type 0) → List ℕ → Type 0
HitsEach groups Each set = (c : List ℕ) → IsSetWithin groups c → Each c → (g : ℕ) × (has c g ≡ true) × (has set g ≡ true)

-- a least set of the one test is a minimal hitting set of the least sets of the other
hitting-from_least : (groups : ℕ) (one other : List ℕ → Bool) (set : List ℕ) → AreDual groups one other
    → IsSubset set (all_groups groups) → IsLeast one set → IsMinimalHitting (HitsEach groups (IsLeast other)) set
hitting-from_least groups one other set d within least =
    record {
      hits = λ c of c_least. meet groups one other set c d within of.1 least.passes c_least.passes;
      minimal = λ part proper hits.
          elim (least-held_or_missed groups one other part d (λ g i. within g (proper.0 g i))) [
            | inl held ↦ false≢true (sym (least.minimal part proper) ∙ d.one_kept held.0 part held.3 held.2.passes)
            | inr missed ↦
                let (g, in_c, in_part) = hits missed.0 missed.1 missed.2 in
                false≢true (sym (missed.3 g in_c) ∙ in_part)
          ];
    }

-- and the other way
least-from_hitting : (groups : ℕ) (one other : List ℕ → Bool) (set : List ℕ) → AreDual groups one other
    → IsSubset set (all_groups groups) → IsMinimalHitting (HitsEach groups (IsLeast other)) set → IsLeast one set
least-from_hitting groups one other set d within h =
    record {
      passes = elim (least-held_or_missed groups one other set d within) [
        | inl held ↦ d.one_kept held.0 set held.3 held.2.passes
        | inr missed ↦
            let (g, in_c, in_set) = h.hits missed.0 missed.1 missed.2 in
            absurd (false≢true (sym (missed.3 g in_c) ∙ in_set))
      ];
      minimal = λ part proper.
          let part_within : IsSubset part (all_groups groups) = λ g i. within g (proper.0 g i) in
          false_from_ne_true (one part)
          (λ t. h.minimal part proper (λ c of c_least. meet groups one other part c d part_within of.1 t c_least.passes));
    }

-- sets that hit the same hit minimally alike
IsMinimalHitting-same : (Hits Same : List ℕ → Type 0) (set : List ℕ) → ((s : List ℕ) → Hits s → Same s)
    → ((s : List ℕ) → Same s → Hits s) → IsMinimalHitting Hits set → IsMinimalHitting Same set
IsMinimalHitting-same Hits Same set there back h =
    record { hits = there set h.hits; minimal = λ part proper hits. h.minimal part proper (back part hits) }

-- whether the set is unsatisfiable, and whether its removal leaves a satisfiable rest
abbrev is_unsat : Problem → List ℕ → Bool
is_unsat p set = not (is_sat p set)

abbrev rest_is_sat : Problem → List ℕ → Bool
rest_is_sat p set = is_sat p (complement p.groups set)

least-from_IsConflict : (p : Problem) (set : List ℕ) → IsConflict p set → IsLeast (is_unsat p) set
least-from_IsConflict p set h =
    record {
      passes = ap not (test-from_unsat p set h.unsat);
      minimal = λ part proper. ap not (test-from_Sat p part (h.minimal part proper));
    }

IsConflict-from_least : (p : Problem) (set : List ℕ) → IsLeast (is_unsat p) set → IsConflict p set
IsConflict-from_least p set h =
    record {
      unsat = unsat-from_test p set (not-true (is_sat p set) h.passes);
      minimal = λ part proper. Sat-from_test p part (not-false (is_sat p part) (h.minimal part proper));
    }

least-from_IsCorrection : (p : Problem) (set : List ℕ) → IsCorrection p set → IsLeast (rest_is_sat p) set
least-from_IsCorrection p set h =
    record {
      passes = test-from_Sat p (complement p.groups set) h.sat;
      minimal = λ part proper. test-from_unsat p (complement p.groups part) (h.minimal part proper);
    }

IsCorrection-from_least : (p : Problem) (set : List ℕ) → IsLeast (rest_is_sat p) set → IsCorrection p set
IsCorrection-from_least p set h =
    record {
      sat = Sat-from_test p (complement p.groups set) h.passes;
      minimal = λ part proper. unsat-from_test p (complement p.groups part) (h.minimal part proper);
    }

is_sat-same : (p : Problem) (a b : List ℕ) → IsSubset a b → IsSubset b a → is_sat p a ≡ is_sat p b
is_sat-same p a b there back =
    elim (cases_Bool (is_sat p a)) [
      | inl t ↦ t ∙ sym (test-from_Sat p b (Sat-subset p b a back (Sat-from_test p a t)))
      | inr f ↦ f ∙ sym (test-from_unsat p b (λ sat. unsat-from_test p a f (Sat-subset p a b there sat)))
    ]

AreDual-tests : (p : Problem) → AreDual p.groups (is_unsat p) (rest_is_sat p)
AreDual-tests p =
    record {
      one_kept = λ small large sub t.
          let unsat = unsat-from_test p small (not-true (is_sat p small) t) in
          ap not (test-from_unsat p large (λ sat. unsat (Sat-subset p small large sub sat)));
      other_kept = λ small large sub t.
          let rest = complement p.groups large in
          let more = complement p.groups small in
          test-from_Sat p rest (Sat-subset p rest more (IsSubset-complement p.groups small large sub) (Sat-from_test p more t));
      one_is = λ set within.
          let twice = complement p.groups (complement p.groups set) in
          ap not (is_sat-same p set twice (IsSubset-complement_twice p.groups set within) (complement_twice-IsSubset p.groups set));
      other_is = λ set within. sym (not-not (is_sat p (complement p.groups set)));
    }

-- each set holds a minimal conflict, or misses a minimal correction
pub holds-or_misses : (p : Problem) (set : List ℕ) → IsSubset set (all_groups p.groups)
    → ((u : List ℕ) × IsSetOf p u × IsConflict p u × IsSubset u set)
    ⊎ ((c : List ℕ) × IsSetOf p c × IsCorrection p c × AreDisjoint c set)
holds-or_misses p set within =
    elim (least-held_or_missed p.groups (is_unsat p) (rest_is_sat p) set (AreDual-tests p) within) [
      | inl held ↦ inl (held.0, held.1, IsConflict-from_least p held.0 held.2, held.3)
      | inr missed ↦ inr (missed.0, missed.1, IsCorrection-from_least p missed.0 missed.2, missed.3)
    ]

-- the minimal conflicts are the minimal hitting sets of the minimal corrections
pub IsConflict-hitting : (p : Problem) (set : List ℕ) → IsSetOf p set → IsConflict p set ↔ IsMinimalHitting (HitsCorrections p) set
IsConflict-hitting p set of = (
  λ h.
      IsMinimalHitting-same (HitsEach p.groups (IsLeast (rest_is_sat p))) (HitsCorrections p) set there back
      (hitting-from_least p.groups (is_unsat p) (rest_is_sat p) set (AreDual-tests p) of.1 (least-from_IsConflict p set h)),
  λ h.
      IsConflict-from_least p set
      (least-from_hitting p.groups (is_unsat p) (rest_is_sat p) set (AreDual-tests p) of.1
      (IsMinimalHitting-same (HitsCorrections p) (HitsEach p.groups (IsLeast (rest_is_sat p))) set back there h)),
)
  where
    there : (s : List ℕ) → HitsEach p.groups (IsLeast (rest_is_sat p)) s → HitsCorrections p s
    there s hits c within h = hits c within (least-from_IsCorrection p c h)

    back : (s : List ℕ) → HitsCorrections p s → HitsEach p.groups (IsLeast (rest_is_sat p)) s
    back s hits c within h = hits c within (IsCorrection-from_least p c h)

-- and the minimal corrections those of the minimal conflicts
pub IsCorrection-hitting : (p : Problem) (set : List ℕ) → IsSetOf p set → IsCorrection p set ↔ IsMinimalHitting (HitsConflicts p) set
IsCorrection-hitting p set of = (
  λ h.
      IsMinimalHitting-same (HitsEach p.groups (IsLeast (is_unsat p))) (HitsConflicts p) set there back
      (hitting-from_least p.groups (rest_is_sat p) (is_unsat p) set dual of.1 (least-from_IsCorrection p set h)),
  λ h.
      IsCorrection-from_least p set
      (least-from_hitting p.groups (rest_is_sat p) (is_unsat p) set dual of.1
      (IsMinimalHitting-same (HitsConflicts p) (HitsEach p.groups (IsLeast (is_unsat p))) set back there h)),
)
  where
    dual : AreDual p.groups (rest_is_sat p) (is_unsat p)
    dual = AreDual-sym p.groups (is_unsat p) (rest_is_sat p) (AreDual-tests p)

    there : (s : List ℕ) → HitsEach p.groups (IsLeast (is_unsat p)) s → HitsConflicts p s
    there s hits u within h = hits u within (least-from_IsConflict p u h)

    back : (s : List ℕ) → HitsConflicts p s → HitsEach p.groups (IsLeast (is_unsat p)) s
    back s hits u within h = hits u within (IsConflict-from_least p u h)
