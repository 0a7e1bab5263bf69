-- Lemmas on refutations.
use Rattle.std.proofs.Common.{◌≡◌, ℕ, ◌+◌, Bool, true, false, List, refl, ◌∙◌, ap, eqb}
use Rattle.std.specs.Prelude.{ℤ, Option, Some, None}
use Rattle.std.specs.Ordering.{int_eq}
use Rattle.std.specs.List.{list_any, list_all}
use Rattle.std.specs.Option.{option_map_or}
use Rattle.std.proofs.lemmas.Bool.{and_parts, and_from, false≢true, eqb-true, eq-eqb}
use Rattle.sat_base.specs.Derivation.{Derivation, is_derivation, derives_within, clause_of, all_known}
use Rattle.gm_base.specs.Sets.{IsSubset}
use Rattle.gm_base.specs.Problem.{Problem}
use Rattle.gm_base.specs.Evidence.{left_out, selector_form, refutes}
use Rattle.sat_base.proofs.Members.{all_at, all_from, any_at, any_from}

all_wider : (f g : ℤ → Bool) → ((l : ℤ) → f l ≡ true → g l ≡ true) → (o : Option (List ℤ))
    → option_map_or (λ c. list_all f c) o false ≡ true → option_map_or (λ c. list_all g c) o false ≡ true
all_wider f g wider None h = absurd (false≢true h)
all_wider f g wider (Some c) h = all_from g c (λ l i. wider l (all_at f c l h i))

-- a derivation of a clause of some literals derives one of more literals
derives_within-wider : (vars : ℕ) (inputs : List (List ℤ)) (d : Derivation) (f g : ℤ → Bool) → ((l : ℤ) → f l ≡ true → g l ≡ true)
    → derives_within vars inputs d f ≡ true → derives_within vars inputs d g ≡ true
derives_within-wider vars inputs d f g wider h =
    let goal = clause_of (all_known inputs d.steps) d.goal in
    let parts = and_parts (is_derivation vars inputs d) (option_map_or (λ c. list_all f c) goal false) h in
    and_from (is_derivation vars inputs d) (option_map_or (λ c. list_all g c) goal false) parts.0 (all_wider f g wider goal parts.1)

any-subset : (test : ℕ → Bool) (small large : List ℕ) → IsSubset small large → list_any test small ≡ true → list_any test large ≡ true
any-subset test small large sub h =
    let (x, i, e) = any_from test small h in
    let (y, j, same) = any_from (λ k. eqb k x) large (sub x (any_at (λ k. eqb k x) small x i (eq-eqb x x refl))) in
    any_at test large y j (ap test (eqb-true y x same) ∙ e)

-- a refutation serves larger sets
pub refutes-subset : (p : Problem) (small large : List ℕ) (d : Derivation) → IsSubset small large → refutes p small d ≡ true → refutes p large d ≡ true
refutes-subset p small large d sub h =
    derives_within-wider (p.vars + p.groups) (selector_form p) d (λ l. list_any (λ g. int_eq (left_out p g) l) small)
    (λ l. list_any (λ g. int_eq (left_out p g) l) large) (λ l. any-subset (λ g. int_eq (left_out p g) l) small large sub) h
