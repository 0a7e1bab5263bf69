-- Satisfiability under sets of groups.
use Rattle.std.proofs.Common.{◌≡◌, ℕ, zero, suc, Bool, true, false, not, ◌||◌, List, [], ◌∷◌, ◌++◌, map, length, refl, sym, ◌∙◌, ap, inl, inr, arith, eqb}
use Rattle.std.proofs.lemmas.Bool.{or_cases, or_left, or_right, false≢true, cases_Bool, false_from_ne_true}
use Rattle.gm_base.specs.declared.clause.Clause.{Clause}
use Rattle.gm_base.specs.Sets.{has, IsSubset}
use Rattle.sat_base.specs.Literals.{clause_true}
use Rattle.gm_base.specs.Problem.{Problem, Sat, satisfies, is_present}
use Rattle.gm_base.specs.Minimal.{assignments, is_sat}
use Rattle.sat_base.specs.Members.{In}
use Rattle.sat_base.proofs.Members.{In-append_left, In-append_right, In-append_cases, In-map, In-from_map, all_at, all_from, any_at, any_from}

is_present-subset : (small large : List ℕ) (c : Clause) → IsSubset small large → is_present small c ≡ true → is_present large c ≡ true
is_present-subset small large c sub h =
    elim (or_cases (eqb c.group 0) (has small c.group) h) [
      | inl background ↦ or_left (eqb c.group 0) (has large c.group) background
      | inr inside ↦ or_right (eqb c.group 0) (has large c.group) (sub c.group inside)
    ]

-- a clause that the larger set asks for and gets
clause-subset : (small large : List ℕ) (assign : List Bool) (c : Clause) → IsSubset small large
    → (not (is_present large c) || clause_true assign c.lits) ≡ true → (not (is_present small c) || clause_true assign c.lits) ≡ true
clause-subset small large assign c sub h =
    elim (cases_Bool (is_present small c)) [
      | inr absent ↦ or_left (not (is_present small c)) (clause_true assign c.lits) (ap not absent)
      | inl present ↦
          or_right (not (is_present small c)) (clause_true assign c.lits)
          (elim (or_cases (not (is_present large c)) (clause_true assign c.lits) h) [
            | inl gone ↦ absurd (false≢true (sym (ap not (is_present-subset small large c sub present)) ∙ gone))
            | inr made ↦ made
          ])
    ]

pub satisfies-subset : (p : Problem) (small large : List ℕ) (assign : List Bool) → IsSubset small large → satisfies p large assign ≡ true → satisfies p small assign ≡ true
satisfies-subset p small large assign sub h =
    all_from (λ c. not (is_present small c) || clause_true assign c.lits) p.clauses
    (λ c i. clause-subset small large assign c sub (all_at (λ d. not (is_present large d) || clause_true assign d.lits) p.clauses c h i))

-- fewer groups keep satisfiability
pub Sat-subset : (p : Problem) (small large : List ℕ) → IsSubset small large → Sat p large → Sat p small
Sat-subset p small large sub h = (h.0, h.1, satisfies-subset p small large h.0 sub h.2)

pub In-assignments : (assign : List Bool) (n : ℕ) → length assign ≡ n → In assign (assignments n)
In-assignments [] zero h = inl refl
In-assignments [] (suc n) h = absurd (omega arith)
In-assignments (x ∷ xs) zero h = absurd (omega arith)
In-assignments (false ∷ xs) (suc n) h =
    In-append_left (false ∷ xs) (map (λ a. false ∷ a) (assignments n)) (map (λ a. true ∷ a) (assignments n))
    (In-map (λ a. false ∷ a) xs (assignments n) (In-assignments xs n (omega arith)))
In-assignments (true ∷ xs) (suc n) h =
    In-append_right (true ∷ xs) (map (λ a. false ∷ a) (assignments n)) (map (λ a. true ∷ a) (assignments n))
    (In-map (λ a. true ∷ a) xs (assignments n) (In-assignments xs n (omega arith)))

pub length-assignments : (assign : List Bool) (n : ℕ) → In assign (assignments n) → length assign ≡ n
length-assignments assign zero (inl e) = ap length e
length-assignments assign zero (inr h) = absurd h
length-assignments assign (suc n) h =
    elim (In-append_cases assign (map (λ a. false ∷ a) (assignments n)) (map (λ a. true ∷ a) (assignments n)) h) [
      | inl l ↦
          let (xs, i, e) = In-from_map (λ a. false ∷ a) assign (assignments n) l in
          let rest : length xs ≡ n = length-assignments xs n i in
          ap length e ∙ omega arith
      | inr r ↦
          let (xs, i, e) = In-from_map (λ a. true ∷ a) assign (assignments n) r in
          let rest : length xs ≡ n = length-assignments xs n i in
          ap length e ∙ omega arith
    ]

-- the test over all assignments
pub Sat-from_test : (p : Problem) (set : List ℕ) → is_sat p set ≡ true → Sat p set
unfolding is_sat
Sat-from_test p set h =
    let (assign, i, ok) = any_from (satisfies p set) (assignments p.vars) h in
    (assign, length-assignments assign p.vars i, ok)

pub test-from_Sat : (p : Problem) (set : List ℕ) → Sat p set → is_sat p set ≡ true
unfolding is_sat
test-from_Sat p set h = any_at (satisfies p set) (assignments p.vars) h.0 (In-assignments h.0 p.vars h.1) h.2

pub unsat-from_test : (p : Problem) (set : List ℕ) → is_sat p set ≡ false → ¬ Sat p set
unsat-from_test p set h sat = false≢true (sym h ∙ test-from_Sat p set sat)

pub test-from_unsat : (p : Problem) (set : List ℕ) → ¬ Sat p set → is_sat p set ≡ false
test-from_unsat p set h = false_from_ne_true (is_sat p set) (λ t. h (Sat-from_test p set t))

pub Sat-fewer_clauses : (p : Problem) (more : List Clause) (set : List ℕ) → Sat (record p { clauses = p.clauses ++ more }) set → Sat p set
Sat-fewer_clauses p more set h = (
  h.0,
  h.1,
  all_from (λ c. not (is_present set c) || clause_true h.0 c.lits) p.clauses
      (λ c i. all_at (λ d. not (is_present set d) || clause_true h.0 d.lits) (p.clauses ++ more) c h.2 (In-append_left c p.clauses more i)),
)
