-- Clauses that were given, and a solver that is made of them.
use Rattle.std.proofs.Common.{◌≡◌, ℕ, ◌+◌, ◌≤◌, List, [], ◌∷◌, ◌++◌, map, length, take, get_or, Some, refl, sym, ◌∙◌, ap, subst, append-nil}
use Rattle.std.specs.Prelude.{ℤ, All, slice_get}
use Rattle.std.proofs.lemmas.List.{map_more, take_all}
use Rattle.sat_base.specs.Members.{In}
use Rattle.sat_base.specs.Literals.{AreLiterals}
use Rattle.sat_base.proofs.DatabaseLemmas.{get_in}
use Rattle.gm_base.specs.Problem.{Problem, IsProblem}
use Rattle.gm_base.specs.Evidence.{selector_form}
use Rattle.lrat_steps.specs.Log.{LogStep, Input}
use Rattle.cdcl_core.specs.Solver.{Solver}
use Rattle.cdcl_core.specs.Answers.{IsHonestlyPaid}
use Rattle.group_oracle.specs.Late.{new_over}
use Rattle.group_oracle.proofs.SelectorLemmas.{form_over, get_or-from, honest-inputs}

-- the clause at a place is over the variables
pub given_literals : (vars : ℕ) (cs : List (List ℤ)) (at : ℕ) (lits : List ℤ) → All (AreLiterals vars) cs → slice_get cs at ≡ Some lits → AreLiterals vars lits
given_literals vars cs at lits h is = let (lt, same) = get_or-from cs at lits [] is in subst (AreLiterals vars) same (h at [] lt)

-- one more clause was added
pub over_more : (vars : ℕ) (cs : List (List ℤ)) (at : ℕ) (lits : List ℤ) (old new : Solver) → slice_get cs at ≡ Some lits → old ≡ new_over vars (take at cs)
    → new ≡ record old { log = old.log ++ Input lits ∷ [] } → new ≡ new_over vars (take (at + 1) cs)
over_more vars cs at lits old new is before added =
    let (lt, same) = get_or-from cs at lits [] is in
    added ∙ ap (λ (s : Solver). (let more : Solver = record s { log = s.log ++ Input lits ∷ [] } in more)) before
    ∙ ap (λ (log : List LogStep). (let made : Solver = record (new_over vars []) { log = log } in made))
    (ap (λ (c : List ℤ). map Input (take at cs) ++ Input c ∷ []) (sym same) ∙ sym (map_more Input cs at [] lt))

-- all clauses were added
pub over_all : (vars : ℕ) (cs : List (List ℤ)) (at : ℕ) (solver : Solver) → length cs ≤ at → solver ≡ new_over vars (take at cs) → solver ≡ new_over vars cs
over_all vars cs at solver past is = is ∙ ap (new_over vars) (take_all at cs past)

-- the clauses of a problem, each with its selector
pub given_form : (p : Problem) (vars : ℕ) (cs : List (List ℤ)) → IsProblem p → vars ≡ p.vars + p.groups → cs ≡ selector_form p → All (AreLiterals vars) cs
given_form p vars cs ok e is at d lt =
    let lits = get_or cs at d in
    subst (λ n. AreLiterals n lits) (sym e) (form_over p lits ok (subst (In lits) is (get_in cs at d lt)))

-- a search that was not begun leaves the log
pub given_unpaid : (left : ℕ) (cs : List (List ℤ)) → IsHonestlyPaid (map Input cs) (map Input cs) left left
given_unpaid left cs =
    record {
      paid = record { more = []; grown = sym (append-nil (map Input cs)); inputs = refl; paid = refl };
      honest = honest-inputs cs;
    }
