-- What is left of a problem's clauses with their selectors: those of the CNF, without the selectors.
use Rattle.std.proofs.Common.{◌≡◌, ℕ, zero, suc, ◌+◌, ◌-◌, ◌<◌, Bool, true, false, not, ◌&&◌, ◌||◌, cond, List, [], ◌∷◌, ◌++◌, map, length, Some, None, refl, sym, ◌∙◌, ap, inl, inr, eqb, ltb, arith, append-nil}
use Rattle.std.specs.Prelude.{ℤ, pos, neg_ℤ}
use Rattle.std.specs.List.{filter, AllByRecursion}
use Rattle.std.proofs.lemmas.Bool.{cases_Bool, cond-true, cond-false, eqb-false, ltb-true, lt-ltb}
use Rattle.std.proofs.lemmas.List.Folds.{list_any-append}
use Rattle.std.proofs.lemmas.List.Elements.{filter-append}
use Rattle.gm_base.specs.declared.clause.Clause.{Clause}
use Rattle.gm_base.specs.Sets.{has}
use Rattle.gm_base.specs.Problem.{Problem, IsProblem, IsClause, is_present}
use Rattle.gm_base.specs.Evidence.{left_out, with_selector, selector_form}
use Rattle.sat_base.specs.Literals.{var_of, IsLiteral, AreLiterals}
use Rattle.sat_base.specs.Derivation.{numbered}
use Rattle.lrat_export.specs.Cnf.{clauses_of}
use Rattle.lrat_export.specs.Export.{is_selector, is_true, is_settled, bared, renumbered}
use Rattle.lrat_export.proofs.BaredLemmas.{not_selector-not_true}
use Rattle.lrat_export.proofs.NumberLemmas.{kept}

pub length-numbered : (from : ℕ) (cs : List (List ℤ)) → length (numbered from cs) ≡ length cs
length-numbered from [] = refl
length-numbered from (c ∷ cs) = ap suc (length-numbered (from + 1) cs)

-- a literal over the problem's variables is of no selector
plain-literal : (vars : ℕ) (l : ℤ) → IsLiteral vars l → is_selector vars l ≡ false
plain-literal vars l over = by (ltb vars (var_of l)) refl
  where
    by : (b : Bool) → ltb vars (var_of l) ≡ b → b ≡ false
    by true is = let above = ltb-true vars (var_of l) is in let within = over.in_range in absurd (omega arith)
    by false is = refl

pub plain-unsettled : (vars : ℕ) (set : List ℕ) (lits : List ℤ) → AreLiterals vars lits → is_settled vars set lits ≡ false
plain-unsettled vars set [] over = refl
plain-unsettled vars set (l ∷ ls) over = ap (λ b. b || is_settled vars set ls) (not_selector-not_true vars set l (plain-literal vars l over.0)) ∙ plain-unsettled vars set ls over.1

pub plain-bared : (vars : ℕ) (lits : List ℤ) → AreLiterals vars lits → bared vars lits ≡ lits
plain-bared vars [] over = refl
plain-bared vars (l ∷ ls) over = ap (λ b. cond (not b) (l ∷ bared vars ls) (bared vars ls)) (plain-literal vars l over.0) ∙ ap (λ (xs : List ℤ). l ∷ xs) (plain-bared vars ls over.1)

-- the literal that says that a group is left out
pub left_out-selector : (p : Problem) (g : ℕ) → 0 < g → is_selector p.vars (left_out p g) ≡ true
left_out-selector p zero some = absurd (omega arith)
left_out-selector p (suc g) some =
    let same : p.vars + suc g ≡ suc (p.vars + g) = omega arith in
    ap (λ n. is_selector p.vars (neg_ℤ (pos n))) same ∙ lt-ltb p.vars (suc (p.vars + g)) (omega arith)

pub left_out-true : (p : Problem) (set : List ℕ) (g : ℕ) → 0 < g → is_true p.vars set (left_out p g) ≡ not (has set g)
left_out-true p set zero some = absurd (omega arith)
left_out-true p set (suc g) some =
    let same : p.vars + suc g ≡ suc (p.vars + g) = omega arith in
    let back : suc (p.vars + g) - p.vars ≡ suc g = omega arith in
    ap (λ n. is_true p.vars set (neg_ℤ (pos n))) same
    ∙ ap (λ b. b && not (has set (suc (p.vars + g) - p.vars))) (lt-ltb p.vars (suc (p.vars + g)) (omega arith))
    ∙ ap (λ n. not (has set n)) back

pub clause-settled : (p : Problem) (set : List ℕ) (c : Clause) → IsClause p.vars p.groups c → is_settled p.vars set (with_selector p c) ≡ not (is_present set c)
clause-settled p set c ok = elim (cases_Bool (eqb c.group 0)) [
  | inl background ↦
      ap (is_settled p.vars set) (cond-true (eqb c.group 0) c.lits (c.lits ++ left_out p c.group ∷ []) background) ∙ plain-unsettled p.vars set c.lits ok.lits
      ∙ sym (ap (λ b. not (b || has set c.group)) background)
  | inr grouped ↦
      let some : 0 < c.group = let other = eqb-false c.group 0 grouped in omega arith in
      ap (is_settled p.vars set) (cond-false (eqb c.group 0) c.lits (c.lits ++ left_out p c.group ∷ []) grouped)
      ∙ list_any-append (is_true p.vars set) c.lits (left_out p c.group ∷ [])
      ∙ ap (λ b. b || (is_true p.vars set (left_out p c.group) || false)) (plain-unsettled p.vars set c.lits ok.lits)
      ∙ ap (λ b. b || false) (left_out-true p set c.group some) ∙ or_false (not (has set c.group))
      ∙ sym (ap (λ b. not (b || has set c.group)) grouped)
]
  where
    or_false : (b : Bool) → (b || false) ≡ b
    or_false true = refl
    or_false false = refl

pub clause-bared : (p : Problem) (c : Clause) → IsClause p.vars p.groups c → bared p.vars (with_selector p c) ≡ c.lits
clause-bared p c ok = elim (cases_Bool (eqb c.group 0)) [
  | inl background ↦ ap (bared p.vars) (cond-true (eqb c.group 0) c.lits (c.lits ++ left_out p c.group ∷ []) background) ∙ plain-bared p.vars c.lits ok.lits
  | inr grouped ↦
      let some : 0 < c.group = let other = eqb-false c.group 0 grouped in omega arith in
      ap (bared p.vars) (cond-false (eqb c.group 0) c.lits (c.lits ++ left_out p c.group ∷ []) grouped)
      ∙ filter-append (λ l. not (is_selector p.vars l)) c.lits (left_out p c.group ∷ [])
      ∙ ap (λ b. bared p.vars c.lits ++ cond (not b) (left_out p c.group ∷ []) []) (left_out-selector p c.group some)
      ∙ append-nil (bared p.vars c.lits) ∙ plain-bared p.vars c.lits ok.lits
]

kept-clauses : (p : Problem) (set : List ℕ) (cs : List Clause) (id number : ℕ) → AllByRecursion (IsClause p.vars p.groups) cs
    → kept (renumbered p.vars set number (numbered id (map (with_selector p) cs))) ≡ numbered number (map (λ (c : Clause). c.lits) (filter (is_present set) cs))
kept-clauses p set [] id number ok = refl
kept-clauses p set (c ∷ cs) id number ok = by (is_present set c) refl (kept-clauses p set cs (id + 1) number ok.1) (kept-clauses p set cs (id + 1) (number + 1) ok.1)
  where
    by : (b : Bool) → is_present set c ≡ b
        → (kept (renumbered p.vars set number (numbered (id + 1) (map (with_selector p) cs))) ≡ numbered number (map (λ (c : Clause). c.lits) (filter (is_present set) cs)))
        → (kept (renumbered p.vars set (number + 1) (numbered (id + 1) (map (with_selector p) cs))) ≡ numbered (number + 1) (map (λ (c : Clause). c.lits) (filter (is_present set) cs)))
        → kept
        (cond (is_settled p.vars set (with_selector p c)) ((id, None) ∷ renumbered p.vars set number (numbered (id + 1) (map (with_selector p) cs)))
        ((id, Some (number, bared p.vars (with_selector p c))) ∷ renumbered p.vars set (number + 1) (numbered (id + 1) (map (with_selector p) cs))))
        ≡ numbered number (map (λ (c : Clause). c.lits) (filter (is_present set) (c ∷ cs)))
    by true here same next =
        ap (λ b. kept (cond b ((id, None) ∷ renumbered p.vars set number (numbered (id + 1) (map (with_selector p) cs))) ((id, Some (number, bared p.vars (with_selector p c))) ∷ renumbered p.vars set (number + 1) (numbered (id + 1) (map (with_selector p) cs)))))
        (clause-settled p set c ok.0 ∙ ap not here)
        ∙ ap (λ (ls : List ℤ). (number, ls) ∷ kept (renumbered p.vars set (number + 1) (numbered (id + 1) (map (with_selector p) cs)))) (clause-bared p c ok.0)
        ∙ ap (λ (es : List (ℕ × List ℤ)). (number, c.lits) ∷ es) next
        ∙ sym (ap (λ b. numbered number (map (λ (c : Clause). c.lits) (cond b (c ∷ filter (is_present set) cs) (filter (is_present set) cs)))) here)
    by false gone same next =
        ap (λ b. kept (cond b ((id, None) ∷ renumbered p.vars set number (numbered (id + 1) (map (with_selector p) cs))) ((id, Some (number, bared p.vars (with_selector p c))) ∷ renumbered p.vars set (number + 1) (numbered (id + 1) (map (with_selector p) cs)))))
        (clause-settled p set c ok.0 ∙ ap not gone)
        ∙ same
        ∙ sym (ap (λ b. numbered number (map (λ (c : Clause). c.lits) (cond b (c ∷ filter (is_present set) cs) (filter (is_present set) cs)))) gone)

-- of the clauses with their selectors those of the CNF are left, under the numbers from 1
pub kept-inputs : (p : Problem) (set : List ℕ) → IsProblem p → kept (renumbered p.vars set 1 (numbered 1 (selector_form p))) ≡ numbered 1 (clauses_of p set)
kept-inputs p set ok = kept-clauses p set p.clauses 1 1 ok
