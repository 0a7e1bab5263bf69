-- Unit propagation: what the literals that are true, a list, make of clauses (DPLL: Davis, Logemann and Loveland 1962).
use Rattle.std.specs.Prelude.{◌≡◌, ◌≢◌, ◌⊎◌, ℕ, Bool, true, false, List, ℤ, neg_ℤ, Option, Some, None}
use Rattle.sat_base.specs.Members.{In}
use Rattle.sat_base.specs.Derivation.{clause_of}
use Rattle.sat_base.specs.Database.{StoredClause, known_of, IsLive}

-- the literal has no value: neither it nor its negation is true
pub record IsUnset (trues : List ℤ) (lit : ℤ) : Type 0 where
  pub not_true : ¬ In lit trues
  pub not_false : ¬ In (neg_ℤ lit) trues

abbrev pub HasValue : List ℤ → ℤ → Type 0
HasValue trues lit = In lit trues ⊎ In (neg_ℤ lit) trues

-- this is the value of the literal
abbrev pub IsValue : List ℤ → ℤ → Option Bool → Type 0
IsValue trues lit None = IsUnset trues lit
IsValue trues lit (Some true) = In lit trues
IsValue trues lit (Some false) = In (neg_ℤ lit) trues

-- each of these literals is true
abbrev pub AllTrue : List ℤ → List ℤ → Type 0
AllTrue trues lits = (l : ℤ) → In l lits → In l trues

-- each literal of the clause is false
abbrev pub AllFalse : List ℤ → List ℤ → Type 0
AllFalse trues clause = (l : ℤ) → In l clause → In (neg_ℤ l) trues

-- each literal of the clause but this one is false
abbrev pub AllFalseBut : List ℤ → List ℤ → ℤ → Type 0
AllFalseBut trues clause but = (l : ℤ) → In l clause → (l ≡ but) ⊎ In (neg_ℤ l) trues

-- two different literals of the clause, neither of them false
pub record HasTwo (trues clause : List ℤ) : Type 0 where
  pub one : ℤ
  pub other : ℤ
  pub one_in : In one clause
  pub other_in : In other clause
  pub differ : one ≢ other
  pub one_open : ¬ In (neg_ℤ one) trues
  pub other_open : ¬ In (neg_ℤ other) trues

-- the clause is neither falsified nor unit: one of its literals is true, or two are not false
abbrev pub IsLoose : List ℤ → List ℤ → Type 0
IsLoose trues clause = ((l : ℤ) × In l clause × In l trues) ⊎ HasTwo trues clause

-- nothing is left to propagate: no live clause is falsified or unit
abbrev pub IsFixpoint : List StoredClause → List ℤ → Type 0
IsFixpoint db trues = (clause : List ℤ) → IsLive db clause → IsLoose trues clause

-- the clause of this id forces the literal: all its other literals are false
pub record IsReason (db : List StoredClause) (trues : List ℤ) (lit : ℤ) (id : ℕ) : Type 0 where
  pub clause : List ℤ
  pub named : clause_of (known_of db) id ≡ Some clause
  pub has : In lit clause
  pub others : AllFalseBut trues clause lit

-- some live clause forces the literal
pub record IsConsequence (db : List StoredClause) (trues : List ℤ) (lit : ℤ) : Type 0 where
  pub clause : List ℤ
  pub live : IsLive db clause
  pub has : In lit clause
  pub others : AllFalseBut trues clause lit

-- the clause of this id is live, and all its literals are false
pub record IsFalsified (db : List StoredClause) (trues : List ℤ) (id : ℕ) : Type 0 where
  pub clause : List ℤ
  pub named : clause_of (known_of db) id ≡ Some clause
  pub live : IsLive db clause
  pub is_false : AllFalse trues clause
