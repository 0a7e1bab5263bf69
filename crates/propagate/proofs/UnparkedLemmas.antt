-- Stores in which nothing is parked.
use Rattle.std.proofs.Common.{◌≡◌, ◌≢◌, ℕ, List, ◌∙◌, ap, subst, inl, inr, get_or}
use Rattle.std.specs.Prelude.{ℤ}
use Rattle.sat_base.specs.Literals.{IsLiteral}
use Rattle.clause_store.specs.Clauses.{Clauses}
use Rattle.clause_store.specs.Links.{park_of, row_of}
use Rattle.propagate.specs.Watches.{IsUnparked}
use Rattle.propagate.proofs.MoveLemmas.{cases_literal}

-- nothing was parked, and what is parked has not changed
pub unparked_same : (s s' : Clauses) → s'.vars ≡ s.vars → s'.parks ≡ s.parks → IsUnparked s → IsUnparked s'
unparked_same s s' vars parks u = record { empty = λ lit is. ap (λ (xs : List ℕ). get_or xs (row_of lit) 0) parks ∙ u.empty lit (subst (λ (v : ℕ). IsLiteral v lit) vars is) }

-- nothing was parked, and under one literal nothing is
pub unparked_under : (s s' : Clauses) (one : ℤ) → s'.vars ≡ s.vars → park_of s' one ≡ 0 → ((other : ℤ) → other ≢ one → park_of s' other ≡ park_of s other) → IsUnparked s → IsUnparked s'
unparked_under s s' one vars none others u = record {
  empty = λ lit is. elim (cases_literal lit one) [
    | inl e ↦ ap (park_of s') e ∙ none
    | inr ne ↦ others lit ne ∙ u.empty lit (subst (λ (v : ℕ). IsLiteral v lit) vars is)
  ];
}
