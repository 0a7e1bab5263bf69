-- What becomes of satisfiable sets, minimal conflicts and minimal corrections where a problem is narrowed.
use Rattle.std.proofs.Common.{◌≡◌, ℕ, Bool, true, false, not, cond, ◌&&◌, ◌||◌, List, [], ◌∷◌, refl, sym, ◌∙◌, ap, subst, inl, inr, eqb}
use Rattle.std.specs.List.{filter, list_all}
use Rattle.std.proofs.lemmas.Bool.{cases_Bool, cond-true, cond-false, and_parts, and_from, false≢true, false_from_ne_true, true_from_ne_false, eqb-true, eq-eqb}
use Rattle.sat_base.specs.Members.{In}
use Rattle.sat_base.specs.Literals.{clause_true}
use Rattle.sat_base.proofs.Members.{all_from, any_at}
use Rattle.gm_base.specs.declared.clause.Clause.{Clause}
use Rattle.gm_base.specs.Sets.{has, IsSubset, IsProperSubset, IsGroupSet, without, complement, all_groups, subsets}
use Rattle.gm_base.specs.Problem.{Problem, Sat, satisfies, is_present}
use Rattle.gm_base.specs.Minimal.{IsConflict, IsCorrection, is_conflict, is_correction, conflicts, corrections}
use Rattle.gm_base.specs.Laws.{IsSetOf}
use Rattle.gm_base.proofs.SetLemmas.{has-filter, has-without, has-complement-parts, has-complement-from, AscendsAbove-filter, AscendsAbove-same, IsSubset-from_all}
use Rattle.gm_base.proofs.SatLemmas.{Sat-subset}
use Rattle.gm_base.proofs.Singles.{IsProperSubset-without}
use Rattle.gm_base.proofs.HittingLemmas.{holds-or_misses}
use Rattle.gm_base.proofs.TestLemmas.{IsConflict-from_test, test-from_IsConflict, IsCorrection-from_test, test-from_IsCorrection}
use Rattle.evidence_rec.proofs.SetListLemmas.{In-filter, filter-In, In-subsets, subsets-In}
use Rattle.focus_roles.specs.Narrow.{narrowed, cut_to, is_within}
use Rattle.focus_roles.specs.Laws.{IsLeastCut}

-- a clause that is not kept asks for nothing
list_all-kept : (kept wanted other : Clause → Bool) (cs : List Clause)
    → ((c : Clause) → (not (kept c) || wanted c) ≡ other c) → list_all wanted (filter kept cs) ≡ list_all other cs
list_all-kept kept wanted other [] each = refl
list_all-kept kept wanted other (c ∷ cs) each =
    elim (cases_Bool (kept c)) [
      | inl stays ↦
          ap (list_all wanted) (cond-true (kept c) (c ∷ filter kept cs) (filter kept cs) stays)
          ∙ ap (λ b. b && list_all wanted (filter kept cs)) (sym (ap (λ k. not k || wanted c) stays) ∙ each c)
          ∙ ap (λ b. other c && b) (list_all-kept kept wanted other cs each)
      | inr goes ↦
          ap (list_all wanted) (cond-false (kept c) (c ∷ filter kept cs) (filter kept cs) goes)
          ∙ list_all-kept kept wanted other cs each
          ∙ ap (λ b. b && list_all other cs) (sym (ap (λ k. not k || wanted c) goes) ∙ each c)
    ]

-- a group is present where it is in focus and in the set
asked : (background inside in_set true_here : Bool)
    → (not (background || inside) || (not (background || in_set) || true_here)) ≡ (not (background || (inside && in_set)) || true_here)
asked true inside in_set true_here = refl
asked false true in_set true_here = refl
asked false false in_set true_here = refl

satisfies-narrowed : (p : Problem) (focus set : List ℕ) (assign : List Bool)
    → satisfies (narrowed p focus) set assign ≡ satisfies p (cut_to focus set) assign
satisfies-narrowed p focus set assign =
    list_all-kept (is_present focus) (λ c. not (is_present set c) || clause_true assign c.lits)
    (λ c. not (is_present (cut_to focus set) c) || clause_true assign c.lits) p.clauses
    (λ c.
    asked (eqb c.group 0) (has focus c.group) (has set c.group) (clause_true assign c.lits)
    ∙ ap (λ b. not (eqb c.group 0 || b) || clause_true assign c.lits) (sym (has-filter (has focus) set c.group)))

pub Sat-cut : (p : Problem) (focus set : List ℕ) → Sat (narrowed p focus) set → Sat p (cut_to focus set)
Sat-cut p focus set (assign, long, t) = (assign, long, sym (satisfies-narrowed p focus set assign) ∙ t)

pub Sat-narrowed : (p : Problem) (focus set : List ℕ) → Sat p (cut_to focus set) → Sat (narrowed p focus) set
Sat-narrowed p focus set (assign, long, t) = (assign, long, satisfies-narrowed p focus set assign ∙ t)

-- the cut set has the groups that are in focus and in the set
cut-parts : (focus set : List ℕ) (g : ℕ) → has (cut_to focus set) g ≡ true → (has focus g ≡ true) × (has set g ≡ true)
cut-parts focus set g i = and_parts (has focus g) (has set g) (sym (has-filter (has focus) set g) ∙ i)

cut-from : (focus set : List ℕ) (g : ℕ) → has focus g ≡ true → has set g ≡ true → has (cut_to focus set) g ≡ true
cut-from focus set g there i = has-filter (has focus) set g ∙ and_from (has focus g) (has set g) there i

-- a set whose groups are all in focus is as satisfiable as in the problem
Sat-within : (p : Problem) (focus set : List ℕ) → IsSubset set focus → Sat p set → Sat (narrowed p focus) set
Sat-within p focus set within sat =
    Sat-narrowed p focus set (Sat-subset p (cut_to focus set) set (λ g i. (cut-parts focus set g i).1) sat)

Sat-whole : (p : Problem) (focus set : List ℕ) → IsSubset set focus → Sat (narrowed p focus) set → Sat p set
Sat-whole p focus set within sat =
    Sat-subset p set (cut_to focus set) (λ g i. cut-from focus set g (within g i) i) (Sat-cut p focus set sat)

-- a set of groups in focus is a minimal conflict of both or of neither
conflict-within : (p : Problem) (focus set : List ℕ) → IsSubset set focus → IsConflict p set → IsConflict (narrowed p focus) set
conflict-within p focus set within h =
    record {
      unsat = λ sat. h.unsat (Sat-whole p focus set within sat);
      minimal = λ part proper. Sat-within p focus part (λ g i. within g (proper.0 g i)) (h.minimal part proper);
    }

conflict-whole : (p : Problem) (focus set : List ℕ) → IsSubset set focus → IsConflict (narrowed p focus) set → IsConflict p set
conflict-whole p focus set within h =
    record {
      unsat = λ sat. h.unsat (Sat-within p focus set within sat);
      minimal = λ part proper. Sat-whole p focus part (λ g i. within g (proper.0 g i)) (h.minimal part proper);
    }

-- a minimal conflict of the narrowed problem has no group out of focus: without it, the rest would clash too
within-conflict : (p : Problem) (focus set : List ℕ) → IsConflict (narrowed p focus) set → IsSubset set focus
within-conflict p focus set h g i =
    true_from_ne_false (has focus g)
    (λ out.
    let rest = Sat-cut p focus (without set g) (h.minimal (without set g) (IsProperSubset-without set g i)) in
    let same : IsSubset (cut_to focus set) (cut_to focus (without set g)) = λ k there.
    let (in_focus, in_set) = cut-parts focus set k there in
    let other : eqb k g ≡ false = false_from_ne_true (eqb k g) (λ e. false≢true (sym out ∙ ap (has focus) (sym (eqb-true k g e)) ∙ in_focus)) in
    cut-from focus (without set g) k in_focus (has-without set g k ∙ and_from (not (eqb k g)) (has set k) (ap not other) in_set) in
    h.unsat (Sat-narrowed p focus set (Sat-subset p (cut_to focus set) (cut_to focus (without set g)) same rest)))

IsSubset-from_within : (focus set : List ℕ) → is_within focus set ≡ true → IsSubset set focus
IsSubset-from_within focus set t = IsSubset-from_all set focus t

within-from_IsSubset : (focus set : List ℕ) → IsSubset set focus → is_within focus set ≡ true
within-from_IsSubset focus set within = all_from (has focus) set (λ g i. within g (any_at (λ k. eqb k g) set g i (eq-eqb g g refl)))

-- two tests that imply each other are one
same_test : (a b : Bool) → (a ≡ true → b ≡ true) → (b ≡ true → a ≡ true) → a ≡ b
same_test true b there back = sym (there refl)
same_test false b there back = sym (false_from_ne_true b (λ t. false≢true (back t)))

test-conflict : (p : Problem) (focus set : List ℕ) → IsGroupSet set
    → is_conflict (narrowed p focus) set ≡ (is_conflict p set && is_within focus set)
test-conflict p focus set ok =
    same_test (is_conflict (narrowed p focus) set) (is_conflict p set && is_within focus set)
    (λ t.
    let h = IsConflict-from_test (narrowed p focus) set ok t in
    let within = within-conflict p focus set h in
    and_from (is_conflict p set) (is_within focus set) (test-from_IsConflict p set ok (conflict-whole p focus set within h)) (within-from_IsSubset focus set within))
    (λ t.
    let (whole, within) = and_parts (is_conflict p set) (is_within focus set) t in
    test-from_IsConflict (narrowed p focus) set ok
    (conflict-within p focus set (IsSubset-from_within focus set within) (IsConflict-from_test p set ok whole)))

-- what passes two tests, one after the other
filter-both : (test first then : List ℕ → Bool) (xs : List (List ℕ)) → ((s : List ℕ) → In s xs → test s ≡ (first s && then s))
    → filter test xs ≡ filter then (filter first xs)
filter-both test first then [] each = refl
filter-both test first then (x ∷ xs) each =
    let rest = filter-both test first then xs (λ s i. each s (inr i)) in
    elim (cases_Bool (first x)) [
      | inl passes ↦
          let is : test x ≡ then x = each x (inl refl) ∙ ap (λ b. b && then x) passes in
          ap (λ b. cond b (x ∷ filter test xs) (filter test xs)) is ∙ ap (λ ys. cond (then x) (x ∷ ys) ys) rest
          ∙ sym (ap (filter then) (cond-true (first x) (x ∷ filter first xs) (filter first xs) passes))
      | inr fails ↦
          let is : test x ≡ false = each x (inl refl) ∙ ap (λ b. b && then x) fails in
          cond-false (test x) (x ∷ filter test xs) (filter test xs) is ∙ rest
          ∙ sym (ap (filter then) (cond-false (first x) (x ∷ filter first xs) (filter first xs) fails))
    ]

pub conflicts-narrowed : (p : Problem) (focus : List ℕ) → conflicts (narrowed p focus) ≡ filter (is_within focus) (conflicts p)
unfolding conflicts
conflicts-narrowed p focus =
    filter-both (is_conflict (narrowed p focus)) (is_conflict p) (is_within focus) (subsets p.groups)
    (λ s i. test-conflict p focus s (subsets-In p.groups s i).0)

-- the minimal corrections are those in the list
pub In-corrections : (p : Problem) (set : List ℕ) → IsSetOf p set → IsCorrection p set → In set (corrections p)
unfolding corrections
In-corrections p set of h =
    In-filter (is_correction p) set (subsets p.groups) (In-subsets p.groups set of.0 of.1) (test-from_IsCorrection p set of.0 h)

pub corrections-In : (p : Problem) (set : List ℕ) → In set (corrections p) → IsSetOf p set × IsCorrection p set
unfolding corrections
corrections-In p set i =
    let (there, t) = filter-In (is_correction p) set (subsets p.groups) i in
    let of = subsets-In p.groups set there in
    (of, IsCorrection-from_test p set of.0 t)

-- without a correction that is cut to the focus, the rest is satisfiable in the narrowed problem
Sat-rest : (p : Problem) (focus c : List ℕ) → IsCorrection p c → Sat (narrowed p focus) (complement p.groups (cut_to focus c))
Sat-rest p focus c h =
    let rest = complement p.groups (cut_to focus c) in
    Sat-narrowed p focus rest
    (Sat-subset p (cut_to focus rest) (complement p.groups c)
    (λ g i.
    let (in_focus, outside) = cut-parts focus rest g i in
    let (missed, all) = has-complement-parts p.groups (cut_to focus c) g outside in
    has-complement-from p.groups c g all (false_from_ne_true (has c g) (λ in_c. false≢true (sym missed ∙ cut-from focus c g in_focus in_c))))
    h.sat)

-- where the rest without a set is satisfiable there, a correction is cut to a part of the set
cut-inside : (p : Problem) (focus set : List ℕ) → Sat (narrowed p focus) (complement p.groups set)
    → (c : List ℕ) × IsSetOf p c × IsCorrection p c × IsSubset (cut_to focus c) set
cut-inside p focus set sat =
    let rest = complement p.groups set in
    let kept = cut_to focus rest in
    let kept_sat = Sat-cut p focus rest sat in
    let within : IsSubset kept (all_groups p.groups) = λ g i. (has-complement-parts p.groups set g (cut-parts focus rest g i).1).1 in
    elim (holds-or_misses p kept within) [
      | inl held ↦ absurd (held.2.unsat (Sat-subset p held.0 kept held.3 kept_sat))
      | inr missed ↦ (
        missed.0,
        missed.1,
        missed.2,
        λ g i.
            let (in_focus, in_c) = cut-parts focus missed.0 g i in
            true_from_ne_false (has set g)
            (λ out. false≢true (sym (missed.3 g in_c) ∙ cut-from focus rest g in_focus (has-complement-from p.groups set g (missed.1.1 g in_c) out))),
      )
    ]

-- a subset of an ascending set that is not a proper one is the set
whole_or_proper : (part set : List ℕ) → IsGroupSet part → IsGroupSet set → IsSubset part set → ¬ IsProperSubset part set → set ≡ part
whole_or_proper part set ok there inside not_proper =
    AscendsAbove-same 0 set part there ok
    (λ g i. true_from_ne_false (has part g) (λ out. not_proper (inside, (g, i, out)))) inside

pub least_cut-from_correction : (p : Problem) (focus set : List ℕ) → In set (corrections (narrowed p focus)) → IsLeastCut p focus set
least_cut-from_correction p focus set i =
    let (of, h) = corrections-In (narrowed p focus) set i in
    let (c, c_of, c_is, inside) = cut-inside p focus set h.sat in
    let never : (d : List ℕ) → IsCorrection p d → ¬ IsProperSubset (cut_to focus d) set = λ d d_is proper. h.minimal (cut_to focus d) proper (Sat-rest p focus d d_is) in
    record {
      cut = (
        c,
        In-corrections p c c_of c_is,
        whole_or_proper (cut_to focus c) set (AscendsAbove-filter (has focus) 0 c c_of.0) of.0 inside (never c c_is),
      );
      least = λ d d_in. never d (corrections-In p d d_in).1;
    }

pub correction-from_least_cut : (p : Problem) (focus set : List ℕ) → IsLeastCut p focus set → In set (corrections (narrowed p focus))
correction-from_least_cut p focus set least =
    let (c, c_in, is) = least.cut in
    let (c_of, c_is) = corrections-In p c c_in in
    let of : IsSetOf p (cut_to focus c) = (
      AscendsAbove-filter (has focus) 0 c c_of.0,
      λ g i. c_of.1 g (cut-parts focus c g i).1,
    ) in
    In-corrections (narrowed p focus) set (subst (IsSetOf p) (sym is) of)
    record {
      sat = subst (λ s. Sat (narrowed p focus) (complement p.groups s)) (sym is) (Sat-rest p focus c c_is);
      minimal = λ part proper sat.
          let (d, d_of, d_is, inside) = cut-inside p focus part sat in
          let (g, in_set, out) = proper.1 in
          least.least d (In-corrections p d d_of d_is)
          (λ k i. proper.0 k (inside k i), (g, in_set, false_from_ne_true (has (cut_to focus d) g) (λ i. false≢true (sym out ∙ inside g i))));
    }
