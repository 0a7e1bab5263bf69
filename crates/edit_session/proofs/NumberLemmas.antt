-- The numbers that literals and ids get in a longer problem: no two literals become one.
use Rattle.std.proofs.Common.{◌≡◌, ℕ, zero, suc, ◌+◌, ◌-◌, ◌<◌, ◌≤◌, Bool, true, false, cond, List, [], ◌∷◌, ◌++◌, map, refl, sym, ◌∙◌, ap, ap₂, inl, inr, eqb, leb, arith}
use Rattle.std.proofs.Math.IntN.{neg_ℤ-neg_ℤ}
use Rattle.std.specs.Prelude.{ℤ, pos, negsuc, neg_ℤ, ◌||◌}
use Rattle.std.specs.Ordering.{int_eq}
use Rattle.std.specs.List.{AllByRecursion, list_any}
use Rattle.std.proofs.lemmas.Bool.{cases_Bool, cases_lt, cond-true, cond-false, le-leb, lt-leb, eqb-false, false_from_ne_true, false≢true}
use Rattle.std.proofs.lemmas.Bool.Decides.{Decides-int_eq}
use Rattle.std.proofs.lemmas.List.{map-append}
use Rattle.sat_base.specs.Literals.{var_of, AreLiterals}
use Rattle.gm_base.specs.declared.clause.Clause.{Clause}
use Rattle.gm_base.specs.Sets.{AscendsAbove}
use Rattle.gm_base.specs.Problem.{Problem, IsProblem, IsClause}
use Rattle.gm_base.specs.Evidence.{left_out, with_selector, selector_form}
use Rattle.edit_session.specs.Extends.{Extends}
use Rattle.edit_session.specs.Carried.{carried_var, carried_lit}
use Rattle.edit_session.proofs.RenamedLemmas.{IsRenaming}

pub var-low : (old new : Problem) (v : ℕ) → v ≤ old.vars → carried_var old new v ≡ v
var-low old new v le = cond-true (leb v old.vars) v (new.vars + (v - old.vars)) (le-leb v old.vars le)

pub var-high : (old new : Problem) (v : ℕ) → old.vars < v → carried_var old new v ≡ new.vars + (v - old.vars)
var-high old new v lt = cond-false (leb v old.vars) v (new.vars + (v - old.vars)) (lt-leb v old.vars lt)

pub lit-low : (old new : Problem) (l : ℤ) → var_of l ≤ old.vars → carried_lit old new l ≡ l
lit-low old new (pos v) le = ap pos (var-low old new v le)
lit-low old new (negsuc v) le = ap (λ n. neg_ℤ (pos n)) (var-low old new (suc v) le)

-- the literal that says that a group is off
pub left_out-carried : (old new : Problem) (g : ℕ) → 0 < g → carried_lit old new (left_out old g) ≡ left_out new g
left_out-carried old new g some =
    let next : old.vars + g ≡ suc (old.vars + (g - 1)) = omega arith in
    let lit : left_out old g ≡ negsuc (old.vars + (g - 1)) = ap (λ n. neg_ℤ (pos n)) next in
    let var : carried_var old new (suc (old.vars + (g - 1))) ≡ new.vars + g = var-high old new (suc (old.vars + (g - 1))) (omega arith) ∙ omega arith in
    ap (carried_lit old new) lit ∙ ap (λ n. neg_ℤ (pos n)) var

var-apart : (old new : Problem) (v w : ℕ) → old.vars ≤ new.vars → carried_var old new v ≡ carried_var old new w → v ≡ w
var-apart old new v w more same =
    elim (cases_lt old.vars v) [
      | inl v_high ↦
          let here = var-high old new v v_high in
          elim (cases_lt old.vars w) [
            | inl w_high ↦ let there = var-high old new w w_high in omega arith
            | inr w_low ↦ let there = var-low old new w w_low in absurd (omega arith)
          ]
      | inr v_low ↦
          let here = var-low old new v v_low in
          elim (cases_lt old.vars w) [
            | inl w_high ↦ let there = var-high old new w w_high in absurd (omega arith)
            | inr w_low ↦ let there = var-low old new w w_low in omega arith
          ]
    ]

-- a variable that is not 0 does not become 0
pub var-some : (old new : Problem) (v : ℕ) → old.vars ≤ new.vars → 0 < v → 0 < carried_var old new v
var-some old new v more some =
    elim (cases_lt old.vars v) [
      | inl high ↦ let here = var-high old new v high in omega arith
      | inr low ↦ let here = var-low old new v low in omega arith
    ]

neg-is : (n : ℕ) → 0 < n → neg_ℤ (pos n) ≡ negsuc (n - 1)
neg-is zero some = absurd (omega arith)
neg-is (suc n) some = let same : n ≡ suc n - 1 = omega arith in ap negsuc same

neg-carried : (old new : Problem) (v : ℕ) → old.vars ≤ new.vars → carried_lit old new (negsuc v) ≡ negsuc (carried_var old new (suc v) - 1)
neg-carried old new v more = neg-is (carried_var old new (suc v)) (var-some old new (suc v) more (omega arith))

lit-apart : (old new : Problem) (a b : ℤ) → old.vars ≤ new.vars → carried_lit old new a ≡ carried_lit old new b → a ≡ b
lit-apart old new (pos v) (pos w) more same = ap pos (var-apart old new v w more (let e : carried_var old new v ≡ carried_var old new w = cc in e))
lit-apart old new (negsuc v) (negsuc w) more same =
    let e : negsuc (carried_var old new (suc v) - 1) ≡ negsuc (carried_var old new (suc w) - 1) = sym (neg-carried old new v more) ∙ same ∙ neg-carried old new w more in
    let less : carried_var old new (suc v) - 1 ≡ carried_var old new (suc w) - 1 = cc in
    let v_some = var-some old new (suc v) more (omega arith) in
    let w_some = var-some old new (suc w) more (omega arith) in
    let vars : carried_var old new (suc v) ≡ carried_var old new (suc w) = omega arith in
    let both = var-apart old new (suc v) (suc w) more vars in
    ap negsuc (omega arith)
lit-apart old new (pos v) (negsuc w) more same =
    let e : pos (carried_var old new v) ≡ negsuc (carried_var old new (suc w) - 1) = same ∙ neg-carried old new w more in cc
lit-apart old new (negsuc v) (pos w) more same =
    let e : negsuc (carried_var old new (suc v) - 1) ≡ pos (carried_var old new w) = sym (neg-carried old new v more) ∙ same in cc

lit-negated : (old new : Problem) (l : ℤ) → carried_lit old new (neg_ℤ l) ≡ neg_ℤ (carried_lit old new l)
lit-negated old new (pos zero) = ap pos (var-low old new 0 (omega arith)) ∙ sym (ap (λ n. neg_ℤ (pos n)) (var-low old new 0 (omega arith)))
lit-negated old new (pos (suc v)) = refl
lit-negated old new (negsuc v) = sym (neg_ℤ-neg_ℤ (pos (carried_var old new (suc v))))

int_eq-by : (a b c d : ℤ) → (a ≡ b → c ≡ d) → (c ≡ d → a ≡ b) → int_eq a b ≡ int_eq c d
int_eq-by a b c d there back =
    elim (cases_Bool (int_eq c d)) [
      | inl same ↦ (Decides-int_eq a b).1 (back ((Decides-int_eq c d).0 same)) ∙ sym same
      | inr other ↦ false_from_ne_true (int_eq a b) (λ e. false≢true (sym other ∙ (Decides-int_eq c d).1 (there ((Decides-int_eq a b).0 e)))) ∙ sym other
    ]

pub carried-renaming : (old new : Problem) → old.vars ≤ new.vars → IsRenaming (carried_lit old new)
carried-renaming old new more =
    record {
      negated = lit-negated old new;
      apart = λ a b. int_eq-by (carried_lit old new a) (carried_lit old new b) a b (lit-apart old new a b more) (λ e. ap (carried_lit old new) e);
    }

-- the variable of a carried literal
pub var_of-carried : (old new : Problem) (l : ℤ) → old.vars ≤ new.vars → var_of (carried_lit old new l) ≡ carried_var old new (var_of l)
var_of-carried old new (pos v) more = refl
var_of-carried old new (negsuc v) more =
    let some = var-some old new (suc v) more (omega arith) in
    ap var_of (neg-carried old new v more) ∙ omega arith

lits-low : (old new : Problem) (lits : List ℤ) → AreLiterals old.vars lits → map (carried_lit old new) lits ≡ lits
lits-low old new [] all = refl
lits-low old new (l ∷ ls) all = ap (λ m. m ∷ map (carried_lit old new) ls) (lit-low old new l all.0.in_range) ∙ ap (λ ms. l ∷ ms) (lits-low old new ls all.1)

-- an old clause with its selector
selector-carried : (old new : Problem) (c : Clause) → IsClause old.vars old.groups c → map (carried_lit old new) (with_selector old c) ≡ with_selector new c
selector-carried old new c ok = by (eqb c.group 0) refl
  where
    by : (b : Bool) → eqb c.group 0 ≡ b
        → map (carried_lit old new) (cond b c.lits (c.lits ++ left_out old c.group ∷ [])) ≡ cond b c.lits (c.lits ++ left_out new c.group ∷ [])
    by true is = lits-low old new c.lits ok.lits
    by false is =
        let other = eqb-false c.group 0 is in
        map-append (carried_lit old new) c.lits (left_out old c.group ∷ [])
        ∙ ap (λ ls. ls ++ carried_lit old new (left_out old c.group) ∷ []) (lits-low old new c.lits ok.lits)
        ∙ ap (λ l. c.lits ++ l ∷ []) (left_out-carried old new c.group (omega arith))

selectors-carried : (old new : Problem) (cs : List Clause) → AllByRecursion (IsClause old.vars old.groups) cs
    → map (with_selector new) cs ≡ map (map (carried_lit old new)) (map (with_selector old) cs)
selectors-carried old new [] all = refl
selectors-carried old new (c ∷ cs) all =
    ap (λ d. d ∷ map (with_selector new) cs) (sym (selector-carried old new c all.0))
    ∙ ap (λ ds. map (carried_lit old new) (with_selector old c) ∷ ds) (selectors-carried old new cs all.1)

-- the new clauses with their selectors are first the old ones, carried over
pub form-carried : (old new : Problem) → IsProblem old → (e : Extends old new)
    → selector_form new ≡ map (map (carried_lit old new)) (selector_form old) ++ map (with_selector new) e.more
form-carried old new ok e =
    ap (map (with_selector new)) e.clauses ∙ map-append (with_selector new) old.clauses e.more
    ∙ ap (λ cs. cs ++ map (with_selector new) e.more) (selectors-carried old new old.clauses ok)

-- "some group of the set is left out", of a literal
pub within-carried : (old new : Problem) (low : ℕ) (set : List ℕ) (l : ℤ) → old.vars ≤ new.vars → AscendsAbove low set
    → list_any (λ g. int_eq (left_out new g) (carried_lit old new l)) set ≡ list_any (λ g. int_eq (left_out old g) l) set
within-carried old new low [] l more up = refl
within-carried old new low (g ∷ gs) l more up =
    let above = up.0 in
    let here : int_eq (left_out new g) (carried_lit old new l) ≡ int_eq (left_out old g) l =
    ap (λ m. int_eq m (carried_lit old new l)) (sym (left_out-carried old new g (omega arith))) ∙ (carried-renaming old new more).apart (left_out old g) l in
    ap₂ (λ a b. a || b) here (within-carried old new g gs l more up.1)
