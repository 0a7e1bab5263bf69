-- A new clause, before it is watched or settled, and what becomes of the trail.
use Rattle.std.specs.Prelude.{◌≡◌, ◌≢◌, ◌⊎◌, ℕ, ◌<◌, true, List, ◌∷◌, ℤ, neg_ℤ, Option, Some, None}
use Rattle.sat_base.specs.Members.{In}
use Rattle.sat_base.specs.Units.{IsUnset, IsLoose, HasTwo}
use Rattle.clause_store.specs.Clauses.{Clauses, clause_at, IsId}
use Rattle.clause_store.specs.Links.{watched_at}
use Rattle.trail_book.specs.declared.entry.Entry.{Entry}
use Rattle.trail_book.specs.Trail.{trues, keep}

-- the clause of this id is live, has these literals, and watches nothing yet
pub record IsUnwatched (store : Clauses) (id : ℕ) (lits : List ℤ) : Type 0 where
  pub is_id : IsId store.clauses id
  pub lits_are : (clause_at store.clauses id).lits ≡ lits
  pub live : (clause_at store.clauses id).live ≡ true
  pub idle : watched_at store id ≡ None

-- at each level below this one the clause is neither falsified nor unit
abbrev pub IsLooseBelow : List Entry → ℕ → List ℤ → Type 0
IsLooseBelow es top clause = (level : ℕ) → level < top → IsLoose (trues (keep level es)) clause

-- up to each level at which two literals of the clause are not false, all stays
abbrev pub StaysWhereOpen : List Entry → List Entry → List ℤ → Type 0
StaysWhereOpen old new clause = (level : ℕ) → HasTwo (trues (keep level old)) clause → keep level new ≡ keep level old

-- of the literals of the clause other than `but`, which are all false, this one became so last
pub record IsLast (es : List Entry) (clause : List ℤ) (but : Option ℤ) (lit : ℤ) : Type 0 where
  pub has : In lit clause
  pub other : but ≢ Some lit
  pub is_false : In (neg_ℤ lit) (trues es)
  pub last : (level : ℕ) → In (neg_ℤ lit) (trues (keep level es)) → (m : ℤ) → In m clause → (but ≡ Some m) ⊎ In (neg_ℤ m) (trues (keep level es))

-- the literal is true up to this level and all stays, or it is forced there by this clause and what was above is taken back
abbrev pub IsForcedAt : List Entry → List Entry → ℤ → ℕ → ℕ → Type 0
IsForcedAt old new lit level id =
    (In lit (trues (keep level old)) × (new ≡ old))
    ⊎ (IsUnset (trues (keep level old)) lit × (new ≡ record { lit = lit; reason = Some id; unit = None } ∷ keep level old))
