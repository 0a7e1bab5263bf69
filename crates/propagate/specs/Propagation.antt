-- What propagation adds to the trail, and what its answer says.
use Rattle.std.specs.Prelude.{◌≡◌, ◌⊎◌, ℕ, List, [], ◌∷◌, length, ℤ, Option, Some, None}
use Rattle.sat_base.specs.Database.{StoredClause}
use Rattle.sat_base.specs.Units.{IsReason, IsConsequence, IsFixpoint, IsFalsified}
use Rattle.clause_store.specs.Clauses.{Clauses}
use Rattle.trail_book.specs.declared.entry.Entry.{Entry}
use Rattle.trail_book.specs.Trail.{Trail, trues}
use Rattle.propagate.specs.declared.propagated.Propagated.{Propagated}
use Rattle.propagate.specs.declared.propagated.Propagated.TheVariants as propagated

-- a live clause, that of the reason, forces the literal
abbrev pub IsForced : List StoredClause → List ℤ → Entry → Type 0
IsForced db trues e = by e.reason
  where
    by : Option ℕ → Type 0
    by None = ⊥
    by (Some id) = IsReason db trues e.lit id × IsConsequence db trues e.lit

-- the old trail, and upon it only literals that the clauses and the literals before them force
abbrev pub Grows : List StoredClause → List Entry → List Entry → Type 0
Grows db old [] = old ≡ []
Grows db old (e ∷ es) = (old ≡ e ∷ es) ⊎ (IsForced db (trues es) e × (e.unit ≡ None) × Grows db old es)

abbrev pub Tells : List StoredClause → List ℤ → Propagated → Type 0
Tells db trues propagated.Fixpoint = IsFixpoint db trues
Tells db trues (propagated.Conflict id) = IsFalsified db trues id

-- where nothing is left to propagate, all values were, and no clause is kept as false
abbrev pub IsDone : Clauses → Trail → Propagated → Type 0
IsDone store trail propagated.Fixpoint = (trail.done ≡ length trail.entries) × (store.false_id ≡ 0)
IsDone store trail (propagated.Conflict id) = Unit {0}
