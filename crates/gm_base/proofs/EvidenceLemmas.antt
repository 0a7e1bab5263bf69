-- What refutes a set shows that it can't be satisfied, and accepted evidence a minimal conflict: where some assignment satisfied a refuted set, the
-- same assignment with the selectors of the set on would make all clauses of the derivation true, and its goal false.
use Rattle.std.proofs.Common.{◌≡◌, ℕ, zero, suc, ◌+◌, ◌-◌, ◌<◌, ◌≤◌, Bool, true, false, not, ◌||◌, List, [], ◌∷◌, ◌++◌, map, length, get_or, refl, sym, ◌∙◌, ap, subst, inl, inr, arith, eqb}
use Rattle.std.specs.Prelude.{ℤ, pos, negsuc, neg_ℤ}
use Rattle.std.specs.Ordering.{int_eq}
use Rattle.std.specs.List.{list_any, list_all, AllByRecursion}
use Rattle.std.proofs.lemmas.Bool.{or_cases, or_left, or_right, false≢true, cases_Bool, and_parts, eqb-true, eq-eqb, eqb-false, cond-true, cond-false}
use Rattle.std.proofs.lemmas.Bool.Decides.{Decides-int_eq}
use Rattle.std.proofs.lemmas.List.{get_or_append_left, get_or-append-add}
use Rattle.std.proofs.lemmas.List.FromFn.{get_or-map-range_with_len}
use Rattle.std.proofs.lemmas.List.Folds.{list_any-append}
use Rattle.gm_base.specs.declared.clause.Clause.{Clause}
use Rattle.gm_base.specs.Sets.{IsGroupSet, has, all_groups, without}
use Rattle.sat_base.specs.Literals.{IsLiteral, literal_true, clause_true}
use Rattle.gm_base.specs.Problem.{Problem, IsProblem, IsClause, Sat, satisfies, is_present}
use Rattle.gm_base.specs.Minimal.{IsConflict}
use Rattle.sat_base.specs.Derivation.{Derivation, numbered}
use Rattle.gm_base.specs.Evidence.{left_out, with_selector, selector_form, refutes, is_witness, each_passes, AcceptsConflict}
use Rattle.sat_base.specs.Members.{In}
use Rattle.sat_base.proofs.Members.{In-append_cases, any_at, any_from}
use Rattle.gm_base.proofs.SetLemmas.{AscendsAbove-has}
use Rattle.gm_base.proofs.Singles.{IsConflict-from_singles}
use Rattle.sat_base.proofs.Soundness.{Good, AllGood, derives-sound}

-- more values at the end change no literal over the first variables
literal_kept : (a more : List Bool) (vars : ℕ) (l : ℤ) → length a ≡ vars → IsLiteral vars l → literal_true (a ++ more) l ≡ literal_true a l
literal_kept a more vars (pos zero) n h = absurd (let positive = h.not_zero in omega arith)
literal_kept a more vars (pos (suc v)) n h =
    let at_most = h.in_range in
    let in_a : suc v - 1 < length a = omega arith in
    get_or_append_left a more false (suc v - 1) in_a
literal_kept a more vars (negsuc v) n h =
    let at_most = h.in_range in
    let in_a : v < length a = omega arith in
    ap not (get_or_append_left a more false v in_a)

clause_kept : (a more : List Bool) (vars : ℕ) (lits : List ℤ) → length a ≡ vars → AllByRecursion (IsLiteral vars) lits → clause_true a lits ≡ true → clause_true (a ++ more) lits ≡ true
clause_kept a more vars [] n h t = t
clause_kept a more vars (l ∷ ls) n h t =
    elim (or_cases (literal_true a l) (clause_true a ls) t) [
      | inl first ↦ or_left (literal_true (a ++ more) l) (clause_true (a ++ more) ls) (literal_kept a more vars l n h.0 ∙ first)
      | inr later ↦ or_right (literal_true (a ++ more) l) (clause_true (a ++ more) ls) (clause_kept a more vars ls n h.1 later)
    ]

-- literals over the first variables are over all
literals_over : (vars more : ℕ) (lits : List ℤ) → AllByRecursion (IsLiteral vars) lits → (l : ℤ) → In l lits → IsLiteral (vars + more) l
literals_over vars more [] h l i = absurd i
literals_over vars more (x ∷ xs) h l (inl e) =
    let at_most = h.0.in_range in
    let over : IsLiteral (vars + more) x = record { not_zero = h.0.not_zero; in_range = omega arith } in
    subst (IsLiteral (vars + more)) (sym e) over
literals_over vars more (x ∷ xs) h l (inr i) = literals_over vars more xs h.1 l i

-- the selectors' values: a group is chosen where it is in the set
abbrev pub chosen : Problem → List ℕ → List Bool
chosen p set = map (has set) (all_groups p.groups)

left_out-is : (p : Problem) (g : ℕ) → 0 < g → left_out p g ≡ negsuc (p.vars + (g - 1))
left_out-is p g h = let same : p.vars + g ≡ suc (p.vars + (g - 1)) = omega arith in ap (λ n. neg_ℤ (pos n)) same

pub left_out-value : (p : Problem) (a : List Bool) (set : List ℕ) (g : ℕ) → length a ≡ p.vars → 0 < g → g ≤ p.groups
    → literal_true (a ++ chosen p set) (left_out p g) ≡ not (has set g)
left_out-value p a set g n low high =
    ap (literal_true (a ++ chosen p set)) (left_out-is p g low)
    ∙ ap (λ k. not (get_or (a ++ chosen p set) (k + (g - 1)) false)) (sym n)
    ∙ ap not (get_or-append-add a (chosen p set) (g - 1) false
    ∙ get_or-map-range_with_len (has set) 1 p.groups (g - 1) g false (omega arith) (omega arith))

left_out-over : (p : Problem) (g : ℕ) → 0 < g → g ≤ p.groups → IsLiteral (p.vars + p.groups) (left_out p g)
left_out-over p g low high = subst (IsLiteral (p.vars + p.groups)) (sym (left_out-is p g low)) (record { not_zero = omega arith; in_range = omega arith })

good_clause : (p : Problem) (a : List Bool) (set : List ℕ) (c : Clause) → length a ≡ p.vars → IsClause p.vars p.groups c
    → (not (is_present set c) || clause_true a c.lits) ≡ true → Good (p.vars + p.groups) (a ++ chosen p set) (with_selector p c)
good_clause p a set c n ok t =
    elim (cases_Bool (eqb c.group 0)) [
      | inl background ↦
          let made : clause_true a c.lits ≡ true = held (or_left (eqb c.group 0) (has set c.group) background) in
          subst (Good (p.vars + p.groups) (a ++ chosen p set)) (sym (cond-true (eqb c.group 0) c.lits (c.lits ++ left_out p c.group ∷ []) background))
          (clause_kept a (chosen p set) p.vars c.lits n ok.lits made, literals_over p.vars p.groups c.lits ok.lits)
      | inr grouped ↦
          let some : 0 < c.group = let other = eqb-false c.group 0 grouped in omega arith in
          let within = ok.group in
          subst (Good (p.vars + p.groups) (a ++ chosen p set)) (sym (cond-false (eqb c.group 0) c.lits (c.lits ++ left_out p c.group ∷ []) grouped)) (
            list_any-append (literal_true (a ++ chosen p set)) c.lits (left_out p c.group ∷ [])
                ∙ elim (cases_Bool (has set c.group)) [
                  | inl inside ↦
                      or_left (clause_true (a ++ chosen p set) c.lits) (clause_true (a ++ chosen p set) (left_out p c.group ∷ []))
                      (clause_kept a (chosen p set) p.vars c.lits n ok.lits (held (or_right (eqb c.group 0) (has set c.group) inside)))
                  | inr outside ↦
                      or_right (clause_true (a ++ chosen p set) c.lits) (clause_true (a ++ chosen p set) (left_out p c.group ∷ []))
                      (or_left (literal_true (a ++ chosen p set) (left_out p c.group)) false
                      (left_out-value p a set c.group n some within ∙ ap not outside))
                ],
            λ l i.
                elim (In-append_cases l c.lits (left_out p c.group ∷ []) i) [
                  | inl first ↦ literals_over p.vars p.groups c.lits ok.lits l first
                  | inr last ↦ elim last [ inl e ↦ subst (IsLiteral (p.vars + p.groups)) (sym e) (left_out-over p c.group some within) | inr none ↦ absurd none ]
                ],
          )
    ]
  where
    held : is_present set c ≡ true → clause_true a c.lits ≡ true
    held present = elim (or_cases (not (is_present set c)) (clause_true a c.lits) t) [ inl gone ↦ absurd (false≢true (sym (ap not present) ∙ gone)) | inr made ↦ made ]

good_inputs : (p : Problem) (a : List Bool) (set : List ℕ) (cs : List Clause) (from : ℕ) → length a ≡ p.vars → AllByRecursion (IsClause p.vars p.groups) cs
    → list_all (λ c. not (is_present set c) || clause_true a c.lits) cs ≡ true → AllGood (p.vars + p.groups) (a ++ chosen p set) (numbered from (map (with_selector p) cs))
good_inputs p a set [] from n ok t = tt
good_inputs p a set (c ∷ cs) from n ok t =
    let parts = and_parts (not (is_present set c) || clause_true a c.lits) (list_all (λ d. not (is_present set d) || clause_true a d.lits) cs) t in
    (good_clause p a set c n ok.0 parts.0, good_inputs p a set cs (from + 1) n ok.1 parts.1)

-- a literal that says that a group above 0 is off is of one of the problem's groups, where it is over the variables
left_out-group : (p : Problem) (g : ℕ) (l : ℤ) → 0 < g → left_out p g ≡ l → IsLiteral (p.vars + p.groups) l → g ≤ p.groups
left_out-group p g l low same over =
    let here : IsLiteral (p.vars + p.groups) (negsuc (p.vars + (g - 1))) = subst (IsLiteral (p.vars + p.groups)) (sym same ∙ left_out-is p g low) over in
    let at_most = here.in_range in omega arith

-- what refutes a set shows that it can't be satisfied
pub refutes-sound : (p : Problem) (set : List ℕ) (d : Derivation) → IsProblem p → IsGroupSet set → refutes p set d ≡ true → ¬ Sat p set
refutes-sound p set d ok is_set r sat =
    let inputs = good_inputs p sat.0 set p.clauses 1 sat.1 ok sat.2 in
    let (l, allowed, made, over) =
    derives-sound (p.vars + p.groups) (sat.0 ++ chosen p set) (selector_form p) d (λ l. list_any (λ g. int_eq (left_out p g) l) set) inputs r in
    let (g, i, e) = any_from (λ g. int_eq (left_out p g) l) set allowed in
    let inside : has set g ≡ true = any_at (λ h. eqb h g) set g i (eq-eqb g g refl) in
    let low : 0 < g = AscendsAbove-has 0 set g is_set inside in
    let same : left_out p g ≡ l = (Decides-int_eq (left_out p g) l).0 e in
    let high : g ≤ p.groups = left_out-group p g l low same over in
    let dead : literal_true (sat.0 ++ chosen p set) (left_out p g) ≡ false = left_out-value p sat.0 set g sat.1 low high ∙ ap not inside in
    false≢true (sym dead ∙ ap (literal_true (sat.0 ++ chosen p set)) same ∙ made)

pub Sat-from_witness : (p : Problem) (set : List ℕ) (w : List Bool) → is_witness p set w ≡ true → Sat p set
Sat-from_witness p set w h =
    let parts = and_parts (eqb (length w) p.vars) (satisfies p set w) h in (w, eqb-true (length w) p.vars parts.0, parts.1)

pub each_passes-at : {X : Type 0} (test : ℕ → X → Bool) (set : List ℕ) (xs : List X) (g : ℕ) → each_passes test set xs ≡ true → has set g ≡ true → (x : X) × (test g x ≡ true)
each_passes-at test [] xs g e h = absurd (false≢true h)
each_passes-at test (k ∷ ks) [] g e h = absurd (false≢true e)
each_passes-at test (k ∷ ks) (x ∷ xs) g e h =
    let parts = and_parts (test k x) (each_passes test ks xs) e in
    elim (or_cases (eqb k g) (has ks g) h) [
      | inl here ↦ (x, ap (λ n. test n x) (sym (eqb-true k g here)) ∙ parts.0)
      | inr later ↦ each_passes-at test ks xs g parts.1 later
    ]

pub IsConflict-from_evidence : (p : Problem) (set : List ℕ) (proof : Derivation) (ws : List (List Bool)) → IsProblem p
    → AcceptsConflict p set proof ws → IsConflict p set
IsConflict-from_evidence p set proof ws ok h =
    IsConflict-from_singles p set (refutes-sound p set proof ok h.is_set h.refuted)
    (λ g i. let (w, e) = each_passes-at (λ g w. is_witness p (without set g) w) set ws g h.witnessed i in Sat-from_witness p (without set g) w e)
