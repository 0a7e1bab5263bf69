-- What conflict analysis needs of a trail.
use Rattle.std.specs.Prelude.{◌≡◌, ℕ, ◌-◌, List, [], ◌∷◌, ℤ, neg_ℤ, Option, Some, None}
use Rattle.sat_base.specs.Members.{In}
use Rattle.sat_base.specs.Derivation.{clause_of}
use Rattle.sat_base.specs.Database.{StoredClause, known_of}
use Rattle.sat_base.specs.Units.{AllFalse, IsReason}
use Rattle.trail_book.specs.declared.entry.Entry.{Entry}
use Rattle.trail_book.specs.Trail.{trues, top, keep}
use Rattle.learn_step.specs.declared.origin.Origin.{Origin}
use Rattle.learn_step.specs.declared.origin.Origin.TheVariants as origin

-- the clause of the reason forces the literal, where there is one
abbrev pub HasReason : List StoredClause → List ℤ → ℤ → Option ℕ → Type 0
HasReason db trues lit None = Unit {0}
HasReason db trues lit (Some id) = IsReason db trues lit id

-- the clause of the unit step is the literal alone, where there is one
abbrev pub HasUnit : List StoredClause → ℤ → Option ℕ → Type 0
HasUnit db lit None = Unit {0}
HasUnit db lit (Some id) = clause_of (known_of db) id ≡ Some (lit ∷ [])

-- each value with a reason stands in the clause of that id, whose other literals the earlier values make false, and each
-- value with a unit step is the whole clause of that id
abbrev pub AreReasoned : List StoredClause → List Entry → Type 0
AreReasoned db [] = Unit {0}
AreReasoned db (e ∷ es) = HasReason db (trues es) e.lit e.reason × HasUnit db e.lit e.unit × AreReasoned db es

-- the entries before the last decision
abbrev pub before_last : List Entry → List Entry
before_last es = keep (top es - 1) es

-- some literal of the clause is of the top level: it was not false before the last decision
pub record HasOpen (es : List Entry) (clause : List ℤ) : Type 0 where
  pub one : ℤ
  pub has : In one clause
  pub still_open : ¬ In (neg_ℤ one) (trues (before_last es))

-- all literals of the clause of this id are false, and some is of the top level
pub record IsConflict (db : List StoredClause) (es : List Entry) (id : ℕ) : Type 0 where
  pub clause : List ℤ
  pub named : clause_of (known_of db) id ≡ Some clause
  pub is_false : AllFalse (trues es) clause
  pub some_open : HasOpen es clause

-- the literal was decided
abbrev pub IsDecision : List Entry → ℤ → Type 0
IsDecision es lit = (e : Entry) × In e es × (e.lit ≡ lit) × (e.reason ≡ None)

-- all literals of the clause of this id are false
pub record IsFalseClause (db : List StoredClause) (es : List Entry) (id : ℕ) : Type 0 where
  pub clause : List ℤ
  pub named : clause_of (known_of db) id ≡ Some clause
  pub is_false : AllFalse (trues es) clause

-- what is false: a clause, or an assumption whose negation was not decided
abbrev pub IsFalse : List StoredClause → List Entry → Origin → Type 0
IsFalse db es (origin.Conflict id) = IsFalseClause db es id
IsFalse db es (origin.Assumption lit) = In (neg_ℤ lit) (trues es) × (¬ IsDecision es (neg_ℤ lit))
