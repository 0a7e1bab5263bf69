-- What is kept of the watches where clauses were forgotten, until the lists are built anew.
use Rattle.std.specs.Prelude.{◌≡◌, ◌≢◌, ℕ, ◌/◌, ◌<◌, ◌≤◌, true, List, length, ℤ, None}
use Rattle.sat_base.specs.Literals.{IsLiteral}
use Rattle.sat_base.specs.Members.{In}
use Rattle.clause_store.specs.Clauses.{Clauses, clause_at, IsId}
use Rattle.clause_store.specs.Links.{watched_at, watch_of, park_of}
use Rattle.trail_book.specs.Trail.{Trail, top, keep}
use Rattle.propagate.specs.Lists.{IsPair}
use Rattle.propagate.specs.Watches.{IsLinked, IsGuarded, IsWatch, IsSettled, IsFalseAtRoot}

-- what a solver keeps between its steps, but for the lists, and but for that a clause that is watched is live
pub record IsStale (store : Clauses) (trail : Trail) : Type 0 where
  pub vars : store.vars ≡ trail.vars
  pub done : trail.done ≤ length trail.entries
  pub fresh : (level : ℕ) → level < top trail.entries → length (keep level trail.entries) ≤ trail.done
  pub id : (n : ℕ) → IsWatch store n → IsId store.clauses (n / 2)
  pub stands : (n : ℕ) → IsWatch store n → In (watch_of store n) (clause_at store.clauses (n / 2)).lits
  pub differ : (n m : ℕ) → IsPair n m → IsWatch store n → watch_of store n ≢ watch_of store m
  pub guarded : (n m : ℕ) → IsPair n m → IsWatch store n → IsGuarded trail.entries trail.done (watch_of store n) (watch_of store m)
  pub settled : store.false_id ≡ 0 → (id : ℕ) → IsId store.clauses id → (clause_at store.clauses id).live ≡ true → watched_at store id ≡ None → IsSettled store.clauses trail.entries id
  pub false_clause : store.false_id ≢ 0 → IsFalseAtRoot store.clauses trail.entries store.false_id

-- the list of a literal has, of the watches below a number, each of that literal once, and no other
pub record IsListedTo (store : Clauses) (bound : ℕ) (lit : ℤ) : Type 0 where
  pub nodes : List ℕ
  pub linked : IsLinked store lit nodes
  pub members : (n : ℕ) → In n nodes → watch_of store n ≡ lit
  pub below : (n : ℕ) → In n nodes → n < bound
  pub complete : (n : ℕ) → n < bound → watch_of store n ≡ lit → In n nodes

-- the lists are built anew of the watches below a number, which are of live clauses, and none is parked
pub record IsRelisted (store : Clauses) (trail : Trail) (bound : ℕ) : Type 0 where
  pub stale : IsStale store trail
  pub listed : (lit : ℤ) → IsLiteral store.vars lit → IsListedTo store bound lit
  pub parks : (lit : ℤ) → IsLiteral store.vars lit → park_of store lit ≡ 0
  pub live : (n : ℕ) → n < bound → IsWatch store n → (clause_at store.clauses (n / 2)).live ≡ true
