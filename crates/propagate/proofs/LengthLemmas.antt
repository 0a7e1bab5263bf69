-- How long a list of watches can be.
use Rattle.std.proofs.Common.{◌≡◌, ℕ, ◌+◌, ◌*◌, ◌/◌, ◌≤◌, List, [], ◌∷◌, length, Bool, true, false, subst, inl, inr, arith}
use Rattle.std.proofs.lemmas.Bool.{false≢true}
use Rattle.std.proofs.lemmas.Bool.Decides.{eqb_tells}
use Rattle.std.proofs.lemmas.Map.Steps.{length-le_from_distinct_below}
use Rattle.std.specs.List.{IsDistinct, AllByRecursion, list_any}
use Rattle.std.specs.Prelude.{eqb, ◌||◌}
use Rattle.sat_base.specs.Members.{In}
use Rattle.sat_base.specs.Database.{StoredClause}
use Rattle.clause_store.specs.Clauses.{IsId}
use Rattle.propagate.specs.Lists.{IsApart}

-- numbers that differ are no more than there are below their bound
all_differ : (n : ℕ) (ns : List ℕ) → (In n ns → ⊥) → AllByRecursion (λ y. eqb n y ≡ false) ns
all_differ n [] out = tt
all_differ n (m ∷ ms) out = (elim (eqb_tells n m) [ inl e ↦ absurd (out (inl e.1)) | inr e ↦ e.0 ], all_differ n ms (λ i. out (inr i)))

distinct : (ns : List ℕ) → IsApart ns → IsDistinct eqb ns
unfolding IsDistinct
distinct [] a = tt
distinct (n ∷ ns) a = (all_differ n ns a.0, distinct ns a.1)

is_in : (q : ℕ) (ns : List ℕ) → list_any (eqb q) ns ≡ true → In q ns
is_in q [] h = absurd (false≢true h)
is_in q (m ∷ ms) h = elim (eqb_tells q m) [
  | inl e ↦ inl e.1
  | inr e ↦ inr (is_in q ms (subst (λ (b : Bool). (b || list_any (eqb q) ms) ≡ true) e.0 h))
]

pub list_fits : (db : List StoredClause) (ns : List ℕ) → IsApart ns → ((n : ℕ) → In n ns → IsId db (n / 2)) → length ns ≤ 2 * length db + 2
list_fits db ns a ids = length-le_from_distinct_below ns (2 * length db + 2) (distinct ns a) (λ q i.
    let high = (ids q (is_in q ns i)).within in
    omega (arith, high))
