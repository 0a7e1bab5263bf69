-- Selectors are literals of their own, and the problem can be read off the clauses with selectors.
use Rattle.std.proofs.Common.{◌≡◌, ℕ, zero, suc, ◌+◌, ◌-◌, ◌<◌, ◌≤◌, Bool, true, false, eqb, leb, List, [], ◌∷◌, ◌++◌, map, refl, sym, ◌∙◌, ap, ap₂, subst, inl, inr, arith, append-nil, length, take, get_or, Some}
use Rattle.std.specs.Prelude.{ℤ, pos, neg_ℤ, slice_get}
use Rattle.std.specs.List.{filter, range_with_len, AllByRecursion}
use Rattle.std.proofs.lemmas.Bool.{or_cases, cases_Bool, false≢true, cond-true, cond-false, le-leb, lt-leb, eqb-true, eqb-false}
use Rattle.std.proofs.lemmas.List.{map_more}
use Rattle.gm_base.specs.declared.clause.Clause.{Clause}
use Rattle.sat_base.specs.Members.{In}
use Rattle.sat_base.specs.Literals.{var_of, IsLiteral, AreLiterals}
use Rattle.gm_base.specs.Sets.{has, IsSubset, all_groups}
use Rattle.gm_base.specs.Problem.{Problem, IsClause, IsProblem}
use Rattle.gm_base.specs.Evidence.{with_selector, selector_form}
use Rattle.sat_base.proofs.Members.{In-from_map}
use Rattle.lrat_steps.specs.Log.{LogStep, Input, inputs_of, learned_count}
use Rattle.lrat_steps.specs.Honest.{HonestFrom, IsHonest}
use Rattle.cdcl_core.specs.Answers.{IsConsistent}
use Rattle.evidence_rec.specs.Asking.{IsHonestOver}
use Rattle.group_oracle.specs.Selectors.{on, off, group_in, without_selector, problem_of}
use Rattle.group_oracle.proofs.GroupLemmas.{abs_neg, in_has}

-- the groups of a problem

has-range : (from count g : ℕ) → has (range_with_len from count) g ≡ true → (from ≤ g) × (g < from + count)
has-range from zero g h = absurd (false≢true h)
has-range from (suc n) g h =
    elim (or_cases (eqb from g) (has (range_with_len (from + 1) n) g) h) [
      | inl here ↦ let same = eqb-true from g here in (omega arith, omega arith)
      | inr later ↦ let (low, high) = has-range (from + 1) n g later in (omega arith, omega arith)
    ]

pub group_range : (groups g : ℕ) (set : List ℕ) → IsSubset set (all_groups groups) → has set g ≡ true → (0 < g) × (g ≤ groups)
group_range groups g set within h = let (low, high) = has-range 1 groups g (within g h) in (omega arith, omega arith)

-- the literals that are assumed

on_at : (vars groups : ℕ) (set : List ℕ) (l : ℤ) → IsSubset set (all_groups groups) → In l (map (on vars) set) → (g : ℕ) × (l ≡ on vars g) × (0 < g) × (g ≤ groups)
on_at vars groups set l within i =
    let (g, j, e) = In-from_map (on vars) l set i in
    let (low, high) = group_range groups g set within (in_has set g j) in
    (g, e, low, high)

over_from : (vars : ℕ) (lits : List ℤ) → ((l : ℤ) → In l lits → IsLiteral vars l) → AreLiterals vars lits
over_from vars [] h = tt
over_from vars (l ∷ ls) h = (h l (inl refl), over_from vars ls (λ m i. h m (inr i)))

pub selectors_over : (vars groups : ℕ) (set : List ℕ) → IsSubset set (all_groups groups) → AreLiterals (vars + groups) (map (on vars) set)
selectors_over vars groups set within =
    over_from (vars + groups) (map (on vars) set)
    (λ l i.
    let (g, e, low, high) = on_at vars groups set l within i in
    subst (IsLiteral (vars + groups)) (sym e) (record { not_zero = omega arith; in_range = omega arith }))

neg_pos : (n m : ℕ) → 0 < n → neg_ℤ (pos n) ≡ pos m → ⊥
neg_pos zero m lt e = absurd (omega arith)
neg_pos (suc n) m lt e = cc

pub selectors_consistent : (vars groups : ℕ) (set : List ℕ) → IsSubset set (all_groups groups) → IsConsistent (map (on vars) set)
selectors_consistent vars groups set within l i j =
    let (g, e, low, high) = on_at vars groups set l within i in
    let (h, f, some, below) = on_at vars groups set (neg_ℤ l) within j in
    neg_pos (vars + g) (vars + h) (omega arith) (sym (ap neg_ℤ e) ∙ f)

-- clauses with their selectors

literal_more : (vars more : ℕ) (lits : List ℤ) → AreLiterals vars lits → AreLiterals (vars + more) lits
literal_more vars more [] h = tt
literal_more vars more (l ∷ ls) h =
    let low = h.0.not_zero in
    let high = h.0.in_range in
    (record { not_zero = low; in_range = omega arith }, literal_more vars more ls h.1)

over-append : (vars : ℕ) (xs ys : List ℤ) → AreLiterals vars xs → AreLiterals vars ys → AreLiterals vars (xs ++ ys)
over-append vars [] ys p q = q
over-append vars (x ∷ xs) ys p q = (p.0, over-append vars xs ys p.1 q)

off_literal : (vars groups g : ℕ) → 0 < g → g ≤ groups → IsLiteral (vars + groups) (off vars g)
off_literal vars groups g low high = let same = abs_neg (vars + g) in record { not_zero = omega arith; in_range = omega arith }

clause_over : (p : Problem) (c : Clause) → IsClause p.vars p.groups c → AreLiterals (p.vars + p.groups) (with_selector p c)
clause_over p c ok =
    elim (cases_Bool (eqb c.group 0)) [
      | inl background ↦
          subst (AreLiterals (p.vars + p.groups)) (sym (cond-true (eqb c.group 0) c.lits (c.lits ++ off p.vars c.group ∷ []) background)) (literal_more p.vars p.groups c.lits ok.lits)
      | inr grouped ↦
          let other = eqb-false c.group 0 grouped in
          let high = ok.group in
          subst (AreLiterals (p.vars + p.groups)) (sym (cond-false (eqb c.group 0) c.lits (c.lits ++ off p.vars c.group ∷ []) grouped))
          (over-append (p.vars + p.groups) c.lits (off p.vars c.group ∷ []) (literal_more p.vars p.groups c.lits ok.lits) (off_literal p.vars p.groups c.group (omega arith) high, tt))
    ]

pub clause_at : (p : Problem) (c : Clause) (cs : List Clause) → AllByRecursion (IsClause p.vars p.groups) cs → In c cs → IsClause p.vars p.groups c
clause_at p c [] h i = absurd i
clause_at p c (x ∷ cs) h (inl same) = subst (IsClause p.vars p.groups) (sym same) h.0
clause_at p c (x ∷ cs) h (inr i) = clause_at p c cs h.1 i

pub form_over : (p : Problem) (lits : List ℤ) → IsProblem p → In lits (selector_form p) → AreLiterals (p.vars + p.groups) lits
form_over p lits ok i =
    let (c, j, e) = In-from_map (with_selector p) lits p.clauses i in
    subst (AreLiterals (p.vars + p.groups)) (sym e) (clause_over p c (clause_at p c p.clauses ok j))

-- without its selector a clause is what it was

abbrev is_low : ℕ → ℤ → Bool
is_low vars l = leb (var_of l) vars

group_in-append : (vars : ℕ) (lits more : List ℤ) → AreLiterals vars lits → group_in vars (lits ++ more) ≡ group_in vars more
group_in-append vars [] more h = refl
group_in-append vars (l ∷ ls) more h =
    cond-true (is_low vars l) (group_in vars (ls ++ more)) (var_of l - vars) (le-leb (var_of l) vars h.0.in_range) ∙ group_in-append vars ls more h.1

low-append : (vars : ℕ) (lits more : List ℤ) → AreLiterals vars lits → filter (is_low vars) (lits ++ more) ≡ lits ++ filter (is_low vars) more
low-append vars [] more h = refl
low-append vars (l ∷ ls) more h =
    cond-true (is_low vars l) (l ∷ filter (is_low vars) (ls ++ more)) (filter (is_low vars) (ls ++ more)) (le-leb (var_of l) vars h.0.in_range)
    ∙ ap (λ (xs : List ℤ). l ∷ xs) (low-append vars ls more h.1)

off_not_low : (vars g : ℕ) → 0 < g → is_low vars (off vars g) ≡ false
off_not_low vars g lt = let same = abs_neg (vars + g) in ap (λ n. leb n vars) same ∙ lt-leb (vars + g) vars (omega arith)

group_in-off : (vars g : ℕ) → 0 < g → group_in vars (off vars g ∷ []) ≡ g
group_in-off vars g lt = let same = abs_neg (vars + g) in cond-false (is_low vars (off vars g)) 0 (var_of (off vars g) - vars) (off_not_low vars g lt) ∙ omega arith

low-off : (vars g : ℕ) → 0 < g → filter (is_low vars) (off vars g ∷ []) ≡ []
low-off vars g lt = cond-false (is_low vars (off vars g)) (off vars g ∷ []) [] (off_not_low vars g lt)

clause_same : (c : Clause) (group : ℕ) (lits : List ℤ) → group ≡ c.group → lits ≡ c.lits → (let made : Clause = record { group = group; lits = lits } in made) ≡ c
clause_same c group lits e f = ap₂ (λ (g : ℕ) (xs : List ℤ). (let made : Clause = record { group = g; lits = xs } in made)) e f

clause_back : (p : Problem) (c : Clause) → IsClause p.vars p.groups c → without_selector p.vars (with_selector p c) ≡ c
clause_back p c ok =
    elim (cases_Bool (eqb c.group 0)) [
      | inl background ↦
          let none : c.group ≡ 0 = eqb-true c.group 0 background in
          let whole = append-nil c.lits in
          ap (without_selector p.vars) (cond-true (eqb c.group 0) c.lits (c.lits ++ off p.vars c.group ∷ []) background ∙ sym whole)
          ∙ clause_same c (group_in p.vars (c.lits ++ [])) (filter (is_low p.vars) (c.lits ++ []))
          (group_in-append p.vars c.lits [] ok.lits ∙ sym none) (low-append p.vars c.lits [] ok.lits ∙ whole)
      | inr grouped ↦
          let other = eqb-false c.group 0 grouped in
          let some : 0 < c.group = omega arith in
          ap (without_selector p.vars) (cond-false (eqb c.group 0) c.lits (c.lits ++ off p.vars c.group ∷ []) grouped)
          ∙ clause_same c (group_in p.vars (c.lits ++ off p.vars c.group ∷ [])) (filter (is_low p.vars) (c.lits ++ off p.vars c.group ∷ []))
          (group_in-append p.vars c.lits (off p.vars c.group ∷ []) ok.lits ∙ group_in-off p.vars c.group some)
          (low-append p.vars c.lits (off p.vars c.group ∷ []) ok.lits ∙ ap (λ (xs : List ℤ). c.lits ++ xs) (low-off p.vars c.group some) ∙ append-nil c.lits)
    ]

clauses_back : (p : Problem) (cs : List Clause) → AllByRecursion (IsClause p.vars p.groups) cs → map (without_selector p.vars) (map (with_selector p) cs) ≡ cs
clauses_back p [] h = refl
clauses_back p (c ∷ cs) h = ap₂ (λ (x : Clause) (xs : List Clause). x ∷ xs) (clause_back p c h.0) (clauses_back p cs h.1)

-- the problem behind a log that has its clauses with selectors
pub problem_back : (p : Problem) (log : List LogStep) → IsProblem p → inputs_of log ≡ selector_form p → problem_of p.vars p.groups log ≡ p
problem_back p log ok same =
    ap (λ (cs : List Clause). (let made : Problem = record { vars = p.vars; groups = p.groups; clauses = cs } in made))
    (ap (map (without_selector p.vars)) same ∙ clauses_back p p.clauses ok)

-- a log of inputs alone

pub get_or-from : {X : Type 0} (xs : List X) (i : ℕ) (x d : X) → slice_get xs i ≡ Some x → (i < length xs) × (get_or xs i d ≡ x)
get_or-from [] i x d h = cc
get_or-from (y ∷ ys) zero x d h = (omega arith, cc)
get_or-from (y ∷ ys) (suc i) x d h = let (lt, same) = get_or-from ys i x d h in (omega arith, same)

-- one more clause is given
pub given_more : (p : Problem) (cs : List Clause) (at : ℕ) (c : Clause) (lits : List ℤ) (old new : List (List ℤ)) → slice_get cs at ≡ Some c → old ≡ map (with_selector p) (take at cs) → lits ≡ with_selector p c
    → new ≡ old ++ lits ∷ [] → new ≡ map (with_selector p) (take (at + 1) cs)
given_more p cs at c lits old new here before is added =
    let (lt, same) = get_or-from cs at c c here in
    added ∙ ap (λ (l : List (List ℤ)). l ++ lits ∷ []) before ∙ ap (λ (l : List ℤ). map (with_selector p) (take at cs) ++ l ∷ []) (is ∙ sym (ap (with_selector p) same))
    ∙ sym (map_more (with_selector p) cs at c lt)

pub inputs-given : (cs : List (List ℤ)) → inputs_of (map Input cs) ≡ cs
inputs-given [] = refl
inputs-given (c ∷ cs) = ap (λ (rest : List (List ℤ)). c ∷ rest) (inputs-given cs)

pub learned-given : (cs : List (List ℤ)) → learned_count (map Input cs) ≡ 0
learned-given [] = refl
learned-given (c ∷ cs) = learned-given cs

given_from : (inputs : List (List ℤ)) (earlier : List LogStep) (cs : List (List ℤ)) → HonestFrom inputs earlier (map Input cs)
given_from inputs earlier [] = tt
given_from inputs earlier (c ∷ cs) = (tt, given_from inputs (earlier ++ Input c ∷ []) cs)

pub honest-inputs : (cs : List (List ℤ)) → IsHonest (map Input cs)
honest-inputs cs = given_from (inputs_of (map Input cs)) [] cs

honest-given : (p : Problem) → IsHonestOver p (map Input (selector_form p))
honest-given p = record { inputs = inputs-given (selector_form p); honest = honest-inputs (selector_form p) }

-- of a log that was just made
pub problem_new : (p : Problem) (vars groups : ℕ) (log : List LogStep) → IsProblem p → vars ≡ p.vars → groups ≡ p.groups → log ≡ map Input (selector_form p) → problem_of vars groups log ≡ p
problem_new p vars groups log ok e f is =
    ap (λ n. problem_of n groups log) e ∙ ap (λ n. problem_of p.vars n log) f
    ∙ problem_back p log ok (ap inputs_of is ∙ inputs-given (selector_form p))

pub learned_new : (p : Problem) (log : List LogStep) → log ≡ map Input (selector_form p) → learned_count log ≡ 0
learned_new p log is = ap learned_count is ∙ learned-given (selector_form p)

pub honest_new : (p : Problem) (log : List LogStep) → log ≡ map Input (selector_form p) → IsHonestOver p log
honest_new p log is = subst (λ (l : List LogStep). IsHonestOver p l) (sym is) (honest-given p)
