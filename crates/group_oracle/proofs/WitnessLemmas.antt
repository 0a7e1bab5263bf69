-- Assignments of the problem, and assignments that give the selectors values too.
use Rattle.std.proofs.Common.{◌≡◌, ◌⊎◌, ℕ, zero, suc, ◌+◌, ◌-◌, ◌<◌, ◌≤◌, Bool, true, false, not, ◌||◌, eqb, List, [], ◌∷◌, ◌++◌, map, length, get_or, take, drop, refl, sym, ◌∙◌, ap, subst, inl, inr, arith}
use Rattle.std.specs.Prelude.{ℤ, pos, negsuc, neg_ℤ}
use Rattle.std.proofs.lemmas.Bool.{or_cases, or_left, or_right, cases_Bool, false≢true, and_from, eq-eqb, eqb-false, cond-true, cond-false}
use Rattle.std.proofs.lemmas.List.{length-take, take-append-drop, get_or_append_left, get_or-append-add}
use Rattle.std.proofs.lemmas.List.FromFn.{get_or-map-range_with_len}
use Rattle.std.proofs.lemmas.List.Folds.{list_any-append}
use Rattle.gm_base.specs.declared.clause.Clause.{Clause}
use Rattle.sat_base.specs.Members.{In}
use Rattle.sat_base.specs.Literals.{var_of, IsLiteral, AreLiterals, literal_true, clause_true}
use Rattle.gm_base.specs.Sets.{has, all_groups}
use Rattle.gm_base.specs.Problem.{Problem, IsClause, IsProblem, is_present, satisfies}
use Rattle.gm_base.specs.Evidence.{with_selector, selector_form, is_witness}
use Rattle.sat_base.proofs.Members.{In-map, In-from_map, In-append_cases, all_at, all_from}
use Rattle.sat_base.proofs.FollowsLemmas.{Holds, literal_true-neg}
use Rattle.cdcl_core.specs.Answers.{IsModel}
use Rattle.group_oracle.specs.Selectors.{on, off}
use Rattle.group_oracle.proofs.GroupLemmas.{abs_neg, has_in}
use Rattle.group_oracle.proofs.SelectorLemmas.{clause_at}

-- more values at the end change no literal over the first variables
literal_kept : (assign more : List Bool) (vars : ℕ) (l : ℤ) → length assign ≡ vars → IsLiteral vars l → literal_true (assign ++ more) l ≡ literal_true assign l
literal_kept assign more vars (pos zero) n h = absurd (let positive = h.not_zero in omega arith)
literal_kept assign more vars (pos (suc v)) n h = let high = h.in_range in get_or_append_left assign more false (suc v - 1) (omega arith)
literal_kept assign more vars (negsuc v) n h = let high = h.in_range in ap not (get_or_append_left assign more false v (omega arith))

clause_kept : (assign more : List Bool) (vars : ℕ) (lits : List ℤ) → length assign ≡ vars → AreLiterals vars lits → clause_true (assign ++ more) lits ≡ clause_true assign lits
clause_kept assign more vars [] n h = refl
clause_kept assign more vars (l ∷ ls) n h =
    ap (λ b. b || clause_true (assign ++ more) ls) (literal_kept assign more vars l n h.0) ∙ ap (λ b. literal_true assign l || b) (clause_kept assign more vars ls n h.1)

clause_prefix : (assign : List Bool) (vars : ℕ) (lits : List ℤ) → vars ≤ length assign → AreLiterals vars lits → clause_true assign lits ≡ true → clause_true (take vars assign) lits ≡ true
clause_prefix assign vars lits le h t =
    let len : length (take vars assign) ≡ vars = omega (arith, length-take vars assign) in
    sym (clause_kept (take vars assign) (drop vars assign) vars lits len h) ∙ ap (λ a. clause_true a lits) (take-append-drop vars assign) ∙ t

off_false : (assign : List Bool) (vars g : ℕ) → 0 < g → literal_true assign (on vars g) ≡ true → literal_true assign (off vars g) ≡ false
off_false assign vars g lt t =
    let some : 0 < var_of (on vars g) = omega arith in
    literal_true-neg assign (on vars g) some ∙ ap not t

-- where the selectors of a set are true, the clauses of its groups are true without them
clause_holds : (p : Problem) (set : List ℕ) (assign : List Bool) (c : Clause) → IsClause p.vars p.groups c → IsModel (p.vars + p.groups) (selector_form p) (map (on p.vars) set) assign → In c p.clauses
    → is_present set c ≡ true → clause_true assign c.lits ≡ true
clause_holds p set assign c ok m i present =
    let made : clause_true assign (with_selector p c) ≡ true = m.clauses_true (with_selector p c) (In-map (with_selector p) c p.clauses i) in
    elim (cases_Bool (eqb c.group 0)) [
      | inl background ↦ sym (ap (clause_true assign) (cond-true (eqb c.group 0) c.lits (c.lits ++ off p.vars c.group ∷ []) background)) ∙ made
      | inr grouped ↦
          let other = eqb-false c.group 0 grouped in
          let some : 0 < c.group = omega arith in
          let inside : has set c.group ≡ true = elim (or_cases (eqb c.group 0) (has set c.group) present) [ inl same ↦ absurd (false≢true (sym grouped ∙ same)) | inr h ↦ h ] in
          let is_on : literal_true assign (on p.vars c.group) ≡ true = m.assumed_true (on p.vars c.group) (In-map (on p.vars) c.group set (has_in set c.group inside)) in
          let one : clause_true assign (c.lits ++ off p.vars c.group ∷ []) ≡ true =
          sym (ap (clause_true assign) (cond-false (eqb c.group 0) c.lits (c.lits ++ off p.vars c.group ∷ []) grouped)) ∙ made in
          elim (or_cases (clause_true assign c.lits) (clause_true assign (off p.vars c.group ∷ [])) (sym (list_any-append (literal_true assign) c.lits (off p.vars c.group ∷ [])) ∙ one)) [
            | inl first ↦ first
            | inr last ↦
                elim (or_cases (literal_true assign (off p.vars c.group)) false last) [
                  | inl is_off ↦ absurd (false≢true (sym (off_false assign p.vars c.group some is_on) ∙ is_off))
                  | inr none ↦ absurd (false≢true none)
                ]
          ]
    ]

-- the values of the problem's variables are a witness
pub witness-from_model : (p : Problem) (set : List ℕ) (assign : List Bool) → IsProblem p → IsModel (p.vars + p.groups) (selector_form p) (map (on p.vars) set) assign → is_witness p set (take p.vars assign) ≡ true
witness-from_model p set assign ok m =
    let total = m.total in
    let long : p.vars ≤ length assign = omega arith in
    let len : length (take p.vars assign) ≡ p.vars = omega (arith, length-take p.vars assign) in
    and_from (eqb (length (take p.vars assign)) p.vars) (satisfies p set (take p.vars assign)) (eq-eqb (length (take p.vars assign)) p.vars len)
    (all_from (λ (c : Clause). not (is_present set c) || clause_true (take p.vars assign) c.lits) p.clauses
    (λ c i. here c i (clause_at p c p.clauses ok i) long (cases_Bool (is_present set c))))
  where
    here : (c : Clause) → In c p.clauses → IsClause p.vars p.groups c → p.vars ≤ length assign → (is_present set c ≡ true) ⊎ (is_present set c ≡ false)
        → (not (is_present set c) || clause_true (take p.vars assign) c.lits) ≡ true
    here c i fits long (inl present) =
        or_right (not (is_present set c)) (clause_true (take p.vars assign) c.lits) (clause_prefix assign p.vars c.lits long fits.lits (clause_holds p set assign c fits m i present))
    here c i fits long (inr absent) = or_left (not (is_present set c)) (clause_true (take p.vars assign) c.lits) (ap not absent)

-- the other way: where an assignment of the problem satisfies a set, it is extended by the selectors' values

-- a group is on where it is in the set
abbrev pub chosen : Problem → List ℕ → List Bool
chosen p set = map (has set) (all_groups p.groups)

off-is : (vars g : ℕ) → 0 < g → off vars g ≡ negsuc (vars + (g - 1))
off-is vars g lt = let same : vars + g ≡ suc (vars + (g - 1)) = omega arith in ap (λ n. neg_ℤ (pos n)) same

pub off-value : (p : Problem) (assign : List Bool) (set : List ℕ) (g : ℕ) → length assign ≡ p.vars → 0 < g → g ≤ p.groups → literal_true (assign ++ chosen p set) (off p.vars g) ≡ not (has set g)
off-value p assign set g n low high =
    ap (literal_true (assign ++ chosen p set)) (off-is p.vars g low)
    ∙ ap (λ k. not (get_or (assign ++ chosen p set) (k + (g - 1)) false)) (sym n)
    ∙ ap not (get_or-append-add assign (chosen p set) (g - 1) false ∙ get_or-map-range_with_len (has set) 1 p.groups (g - 1) g false (omega arith) (omega arith))

lits_not_zero : (vars : ℕ) (lits : List ℤ) → AreLiterals vars lits → (l : ℤ) → In l lits → 0 < var_of l
lits_not_zero vars [] h l i = absurd i
lits_not_zero vars (x ∷ xs) h l (inl same) = subst (λ k. 0 < var_of k) (sym same) h.0.not_zero
lits_not_zero vars (x ∷ xs) h l (inr i) = lits_not_zero vars xs h.1 l i

clause_extended : (p : Problem) (assign : List Bool) (set : List ℕ) (c : Clause) → length assign ≡ p.vars → IsClause p.vars p.groups c → (not (is_present set c) || clause_true assign c.lits) ≡ true
    → Holds (assign ++ chosen p set) (with_selector p c)
clause_extended p assign set c n ok t =
    elim (cases_Bool (eqb c.group 0)) [
      | inl background ↦
          let made : clause_true assign c.lits ≡ true = held (or_left (eqb c.group 0) (has set c.group) background) in
          subst (Holds (assign ++ chosen p set)) (sym (cond-true (eqb c.group 0) c.lits (c.lits ++ off p.vars c.group ∷ []) background))
          (record { is_true = clause_kept assign (chosen p set) p.vars c.lits n ok.lits ∙ made; not_zero = lits_not_zero p.vars c.lits ok.lits })
      | inr grouped ↦
          let other = eqb-false c.group 0 grouped in
          let some : 0 < c.group = omega arith in
          subst (Holds (assign ++ chosen p set)) (sym (cond-false (eqb c.group 0) c.lits (c.lits ++ off p.vars c.group ∷ []) grouped))
          (record { is_true = list_any-append (literal_true (assign ++ chosen p set)) c.lits (off p.vars c.group ∷ []) ∙ one some (cases_Bool (has set c.group)); not_zero = not_zero some })
    ]
  where
    held : is_present set c ≡ true → clause_true assign c.lits ≡ true
    held present = elim (or_cases (not (is_present set c)) (clause_true assign c.lits) t) [ inl gone ↦ absurd (false≢true (sym (ap not present) ∙ gone)) | inr made ↦ made ]

    one : 0 < c.group → (has set c.group ≡ true) ⊎ (has set c.group ≡ false) → (clause_true (assign ++ chosen p set) c.lits || clause_true (assign ++ chosen p set) (off p.vars c.group ∷ [])) ≡ true
    one some (inl inside) =
        or_left (clause_true (assign ++ chosen p set) c.lits) (clause_true (assign ++ chosen p set) (off p.vars c.group ∷ []))
        (clause_kept assign (chosen p set) p.vars c.lits n ok.lits ∙ held (or_right (eqb c.group 0) (has set c.group) inside))
    one some (inr outside) =
        or_right (clause_true (assign ++ chosen p set) c.lits) (clause_true (assign ++ chosen p set) (off p.vars c.group ∷ []))
        (or_left (literal_true (assign ++ chosen p set) (off p.vars c.group)) false (off-value p assign set c.group n some ok.group ∙ ap not outside))

    not_zero : 0 < c.group → (l : ℤ) → In l (c.lits ++ off p.vars c.group ∷ []) → 0 < var_of l
    not_zero some l i =
        elim (In-append_cases l c.lits (off p.vars c.group ∷ []) i) [
          | inl first ↦ lits_not_zero p.vars c.lits ok.lits l first
          | inr (inl same) ↦ let abs = abs_neg (p.vars + c.group) in let there = ap var_of same in omega arith
          | inr (inr none) ↦ absurd none
        ]

pub form_extended : (p : Problem) (assign : List Bool) (set : List ℕ) → IsProblem p → length assign ≡ p.vars → satisfies p set assign ≡ true → (lits : List ℤ) → In lits (selector_form p)
    → Holds (assign ++ chosen p set) lits
form_extended p assign set ok n t lits i =
    let (c, j, e) = In-from_map (with_selector p) lits p.clauses i in
    subst (Holds (assign ++ chosen p set)) (sym e)
    (clause_extended p assign set c n (clause_at p c p.clauses ok j) (all_at (λ (c : Clause). not (is_present set c) || clause_true assign c.lits) p.clauses c t j))
