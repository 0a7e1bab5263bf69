-- What holds outside a correction, clause by clause.
use Rattle.std.proofs.Common.{◌≡◌, ℕ, ◌+◌, ◌≤◌, Bool, true, false, not, ◌&&◌, ◌||◌, List, take, get_or, Some, refl, sym, ◌∙◌, ap, ap₂, inl, inr, arith}
use Rattle.std.specs.Prelude.{slice_get}
use Rattle.std.specs.List.{list_all}
use Rattle.std.proofs.lemmas.Bool.{cases_eq, eq-eqb, ne_eqb, and_from}
use Rattle.std.proofs.lemmas.List.Folds.{list_all_more, list_all_at}
use Rattle.std.proofs.lemmas.Option.{slice_get_within, get_or_from_slice_get}
use Rattle.sat_base.specs.Literals.{clause_true}
use Rattle.gm_base.specs.declared.clause.Clause.{Clause}
use Rattle.gm_base.specs.Sets.{IsGroupSet, has, complement}
use Rattle.gm_base.specs.Problem.{Problem, is_present}
use Rattle.gm_base.proofs.SetLemmas.{has-complement, has-all_groups, not_has-bound}

-- a clause is not present outside a set exactly where it is of one of its groups
pub absent-outside : (groups : ℕ) (set : List ℕ) (c : Clause) → IsGroupSet set → c.group ≤ groups
    → not (is_present (complement groups set) c) ≡ has set c.group
absent-outside groups set c ascends le =
    elim (cases_eq c.group 0) [
      | inl none ↦
          ap (λ b. not (b || has (complement groups set) c.group)) (eq-eqb c.group 0 none)
          ∙ sym (not_has-bound 0 c.group set (omega arith) ascends)
      | inr some ↦
          ap₂ (λ a b. not (a || b)) (ne_eqb c.group 0 some)
          (has-complement groups set c.group ∙ ap (λ b. not (has set c.group) && b) (has-all_groups groups c.group (omega arith) le))
          ∙ by (has set c.group)
    ]
  where
    by : (b : Bool) → not (false || (not b && true)) ≡ b
    by true = refl
    by false = refl

-- the test of a clause
abbrev pub passes : Problem → List ℕ → List Bool → Clause → Bool
passes p set w c = not (is_present (complement p.groups set) c) || clause_true w c.lits

pub passes-is : (p : Problem) (set : List ℕ) (w : List Bool) (c : Clause) → IsGroupSet set → c.group ≤ p.groups
    → passes p set w c ≡ (clause_true w c.lits || has set c.group)
passes-is p set w c ascends le = ap (λ b. b || clause_true w c.lits) (absent-outside p.groups set c ascends le) ∙ by (has set c.group) (clause_true w c.lits)
  where
    by : (a b : Bool) → (a || b) ≡ (b || a)
    by true true = refl
    by true false = refl
    by false true = refl
    by false false = refl

-- the clause at a place fails, so not all pass
pub passes-stop : (p : Problem) (set : List ℕ) (w : List Bool) (at : ℕ) (c : Clause) → slice_get p.clauses at ≡ Some c → passes p set w c ≡ false
    → list_all (passes p set w) p.clauses ≡ false
passes-stop p set w at c is failed =
    list_all_at (passes p set w) p.clauses at c (slice_get_within p.clauses at c is) (ap (passes p set w) (get_or_from_slice_get p.clauses at c c is) ∙ failed)

-- the clause at a place passes too
pub passes-go : (p : Problem) (set : List ℕ) (w : List Bool) (at : ℕ) (c : Clause) → slice_get p.clauses at ≡ Some c → passes p set w c ≡ true
    → list_all (passes p set w) (take at p.clauses) ≡ true → list_all (passes p set w) (take (at + 1) p.clauses) ≡ true
passes-go p set w at c is passed so_far =
    list_all_more (passes p set w) p.clauses at c (slice_get_within p.clauses at c is)
    ∙ and_from (list_all (passes p set w) (take at p.clauses)) (passes p set w (get_or p.clauses at c)) so_far
    (ap (passes p set w) (get_or_from_slice_get p.clauses at c c is) ∙ passed)
