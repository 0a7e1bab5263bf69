-- What a solver keeps of its watches between its steps (two watched literals: Chaff, Moskewicz and others 2001).
--
-- A watch hangs at one place: in the list of its literal, or, where it is parked, under the other watched literal of its
-- clause, which is true.
use Rattle.std.specs.Prelude.{◌≡◌, ◌≢◌, ℕ, ◌/◌, ◌<◌, ◌≤◌, Bool, true, false, List, length, ℤ, neg_ℤ, None}
use Rattle.sat_base.specs.Literals.{IsLiteral}
use Rattle.sat_base.specs.Members.{In}
use Rattle.sat_base.specs.Database.{StoredClause}
use Rattle.clause_store.specs.Clauses.{Clauses, clause_at, IsId}
use Rattle.clause_store.specs.Links.{watched_at, watch_of, next_of, head_of, tail_of, park_of}
use Rattle.trail_book.specs.declared.entry.Entry.{Entry}
use Rattle.trail_book.specs.Trail.{Trail, trues, top, keep, oldest}
use Rattle.propagate.specs.Lists.{IsPair, IsApart, IsChain, last_of}

-- the links of the list of a literal lead along these watches
pub record IsLinked (store : Clauses) (lit : ℤ) (nodes : List ℕ) : Type 0 where
  pub chain : IsChain (next_of store) (head_of store lit) nodes
  pub end : tail_of store lit ≡ last_of 0 nodes / 2
  pub apart : IsApart nodes

-- these are the watches of the literal that are not parked
pub record AreWatchesOf (store : Clauses) (parked : ℕ → Bool) (lit : ℤ) (nodes : List ℕ) : Type 0 where
  pub members : (n : ℕ) → In n nodes → watch_of store n ≡ lit
  pub unparked : (n : ℕ) → In n nodes → parked n ≡ false
  pub complete : (n : ℕ) → watch_of store n ≡ lit → parked n ≡ false → In n nodes

-- the list of a literal has each watch of that literal that is not parked once, and no other
pub record IsListed (store : Clauses) (parked : ℕ → Bool) (lit : ℤ) : Type 0 where
  pub nodes : List ℕ
  pub linked : IsLinked store lit nodes
  pub watches : AreWatchesOf store parked lit nodes

-- the watch is parked, and the other one of its clause is that of the literal
pub record IsParkedUnder (store : Clauses) (parked : ℕ → Bool) (lit : ℤ) (n : ℕ) : Type 0 where
  pub is_parked : parked n ≡ true
  pub under : (m : ℕ) → IsPair n m → watch_of store m ≡ lit

-- from the link one comes to each watch that is parked under the literal once, and to no other
pub record AreParked (store : Clauses) (parked : ℕ → Bool) (lit : ℤ) (link : ℕ) : Type 0 where
  pub nodes : List ℕ
  pub chain : IsChain (next_of store) link nodes
  pub apart : IsApart nodes
  pub members : (n : ℕ) → In n nodes → IsParkedUnder store parked lit n
  pub complete : (n : ℕ) → IsParkedUnder store parked lit n → In n nodes

-- where the literal is false and was propagated, the other is true, at a level that is not above it: at each level up to which
-- the one is false already, the other is true already
abbrev pub IsGuarded : List Entry → ℕ → ℤ → ℤ → Type 0
IsGuarded es done lit other = In (neg_ℤ lit) (trues (oldest done es)) → (level : ℕ) → In (neg_ℤ lit) (trues (keep level es)) → In other (trues (keep level es))

-- the number is that of a watch: its clause is watched
abbrev pub IsWatch : Clauses → ℕ → Type 0
IsWatch store n = watched_at store (n / 2) ≢ None

-- a clause that is watched is live, and watches two different literals of its own, which guard each other
pub record AreWatches (store : Clauses) (es : List Entry) (done : ℕ) : Type 0 where
  pub id : (n : ℕ) → IsWatch store n → IsId store.clauses (n / 2)
  pub live : (n : ℕ) → IsWatch store n → (clause_at store.clauses (n / 2)).live ≡ true
  pub stands : (n : ℕ) → IsWatch store n → In (watch_of store n) (clause_at store.clauses (n / 2)).lits
  pub differ : (n m : ℕ) → IsPair n m → IsWatch store n → watch_of store n ≢ watch_of store m
  pub guarded : (n m : ℕ) → IsPair n m → IsWatch store n → IsGuarded es done (watch_of store n) (watch_of store m)

-- each watch hangs at one place, and where it is parked the literal that it is parked under is true
pub record AreHung (store : Clauses) (trail : Trail) : Type 0 where
  pub parked : ℕ → Bool
  pub listed : (lit : ℤ) → IsLiteral store.vars lit → IsListed store parked lit
  pub under : (lit : ℤ) → IsLiteral store.vars lit → AreParked store parked lit (park_of store lit)
  pub satisfied : (n m : ℕ) → parked n ≡ true → IsPair n m → In (watch_of store m) (trues trail.entries)
  pub parked_watch : (n : ℕ) → parked n ≡ true → IsWatch store n
  pub watches : AreWatches store trail.entries trail.done

-- nothing is parked
pub record IsUnparked (store : Clauses) : Type 0 where
  pub empty : (lit : ℤ) → IsLiteral store.vars lit → park_of store lit ≡ 0

-- some literal of the clause is true at level 0
abbrev pub IsSettled : List StoredClause → List Entry → ℕ → Type 0
IsSettled db es id = (lit : ℤ) × In lit (clause_at db id).lits × In lit (trues (keep 0 es))

-- the clause is live, and each of its literals is false at level 0
pub record IsFalseAtRoot (db : List StoredClause) (es : List Entry) (id : ℕ) : Type 0 where
  pub is_id : IsId db id
  pub live : (clause_at db id).live ≡ true
  pub is_false : (lit : ℤ) → In lit (clause_at db id).lits → In (neg_ℤ lit) (trues (keep 0 es))

-- the fact, but for one clause, which may be neither watched nor settled yet; 0 stands for none
pub record IsKeptBut (store : Clauses) (trail : Trail) (but : ℕ) : Type 0 where
  pub vars : store.vars ≡ trail.vars
  -- what has not been propagated is of the top level: what is of a level below it has been
  pub done : trail.done ≤ length trail.entries
  pub fresh : (level : ℕ) → level < top trail.entries → length (keep level trail.entries) ≤ trail.done
  pub hung : AreHung store trail
  -- a live clause that is not watched is settled, unless a clause is kept that is false at level 0
  pub settled : store.false_id ≡ 0 → (id : ℕ) → id ≢ but → IsId store.clauses id → (clause_at store.clauses id).live ≡ true → watched_at store id ≡ None → IsSettled store.clauses trail.entries id
  pub false_clause : store.false_id ≢ 0 → IsFalseAtRoot store.clauses trail.entries store.false_id

-- what a solver keeps between its steps
abbrev pub IsKept : Clauses → Trail → Type 0
IsKept store trail = IsKeptBut store trail 0

-- only watches and lists differ
pub record KeepsClauses (old new : Clauses) : Type 0 where
  pub vars : new.vars ≡ old.vars
  pub clauses : new.clauses ≡ old.clauses
  pub false_id : new.false_id ≡ old.false_id
  pub room : new.room ≡ old.room
  pub literal_room : new.literal_room ≡ old.literal_room
