-- The steps of a walk along the list of a literal that is false.
use Rattle.std.specs.Prelude.{◌≡◌, ◌≢◌, ℕ, ◌+◌, ◌/◌, ◌<◌, ◌≤◌, Bool, true, List, ◌∷◌, ◌++◌, length, ℤ, neg_ℤ}
use Rattle.sat_base.specs.Literals.{IsLiteral}
use Rattle.sat_base.specs.Members.{In}
use Rattle.sat_base.specs.Units.{AllFalse, AllFalseBut, IsUnset}
use Rattle.clause_store.specs.Clauses.{Clauses}
use Rattle.clause_store.specs.Links.{watch_of, next_of, head_of, tail_of, park_of}
use Rattle.trail_book.specs.Trail.{Trail, trues, oldest}
use Rattle.propagate.specs.Lists.{IsPair, IsChain, last_of}
use Rattle.propagate.specs.Watches.{IsLinked, AreWatchesOf, IsListed, AreParked, IsWatch, AreWatches, IsKept}
use Rattle.propagate.specs.declared.visit.Finding.{Finding}
use Rattle.propagate.specs.declared.visit.Finding.TheVariants as finding

-- a literal of the clause, other than this one, that is not false
pub record CanWatch (vars : ℕ) (trues clause : List ℤ) (other to : ℤ) : Type 0 where
  pub stands : In to clause
  pub differs : to ≢ other
  pub not_false : ¬ In (neg_ℤ to) trues
  pub literal : IsLiteral vars to

-- what a look at a clause tells, of which one watched literal is false and the other is this one; a watch is parked only
-- where that is asked for
abbrev pub Visits : ℕ → List ℤ → List ℤ → ℤ → Bool → Finding → Type 0
Visits vars trues clause other parks finding.Satisfied = In other trues
Visits vars trues clause other parks finding.Settled = In other trues × (parks ≡ true)
Visits vars trues clause other parks (finding.Moved to position) = CanWatch vars trues clause other to
Visits vars trues clause other parks finding.Forcing = IsUnset trues other × AllFalseBut trues clause other
Visits vars trues clause other parks finding.Falsified = AllFalse trues clause

-- two different literals of the clause, of which the first is false
pub record IsFalseWatch (trues clause : List ℤ) (lit other : ℤ) : Type 0 where
  pub stands : In lit clause
  pub other_stands : In other clause
  pub differ : lit ≢ other
  pub is_false : In (neg_ℤ lit) trues

-- the watch of the literal in the clause of this id, or 0 where there is no clause
pub record IsNode (store : Clauses) (lit : ℤ) (id node : ℕ) : Type 0 where
  pub half : node / 2 ≡ id
  pub none : id ≡ 0 → node ≡ 0
  pub watches : id ≢ 0 → watch_of store node ≡ lit
  pub alone : id ≢ 0 → (m : ℕ) → IsPair node m → watch_of store m ≢ lit

-- the list of the literal goes on from this watch, or begins where it is 0, with another clause now
pub record Continues (old new : Clauses) (lit : ℤ) (node to : ℕ) : Type 0 where
  pub head : node ≡ 0 → head_of new lit ≡ to
  pub head_kept : node ≢ 0 → head_of new lit ≡ head_of old lit
  pub heads : (y : ℤ) → y ≢ lit → head_of new y ≡ head_of old y
  pub next : node ≢ 0 → next_of new node ≡ to
  pub nexts : (m : ℕ) → m ≢ 0 → m ≢ node → next_of new m ≡ next_of old m

-- the same, and the list ends there where nothing follows
pub record Unlinks (old new : Clauses) (lit : ℤ) (node to : ℕ) : Type 0 where
  pub head : node ≡ 0 → head_of new lit ≡ to
  pub head_kept : node ≢ 0 → head_of new lit ≡ head_of old lit
  pub heads : (y : ℤ) → y ≢ lit → head_of new y ≡ head_of old y
  pub next : node ≢ 0 → next_of new node ≡ to
  pub nexts : (m : ℕ) → m ≢ 0 → m ≢ node → next_of new m ≡ next_of old m
  pub tail : to ≡ 0 → tail_of new lit ≡ node / 2
  pub tail_kept : to ≢ 0 → tail_of new lit ≡ tail_of old lit
  pub tails : (y : ℤ) → y ≢ lit → tail_of new y ≡ tail_of old y

-- the list of the literal goes on from this watch, or begins where it is 0, with the watch `n`, and ends there
pub record Appends (old new : Clauses) (lit : ℤ) (node n : ℕ) : Type 0 where
  pub head : node ≡ 0 → head_of new lit ≡ n / 2
  pub head_kept : node ≢ 0 → head_of new lit ≡ head_of old lit
  pub heads : (y : ℤ) → y ≢ lit → head_of new y ≡ head_of old y
  pub next : node ≢ 0 → node ≢ n → next_of new node ≡ n / 2
  pub last : next_of new n ≡ 0
  pub nexts : (m : ℕ) → m ≢ 0 → m ≢ node → m ≢ n → next_of new m ≡ next_of old m
  pub tail : tail_of new lit ≡ n / 2
  pub tails : (y : ℤ) → y ≢ lit → tail_of new y ≡ tail_of old y

-- the watch `n` is the first one that is parked under the literal
pub record Parks (old new : Clauses) (lit : ℤ) (n : ℕ) : Type 0 where
  pub first : park_of new lit ≡ n / 2
  pub parks : (y : ℤ) → y ≢ lit → park_of new y ≡ park_of old y
  pub next : next_of new n ≡ park_of old lit
  pub nexts : (m : ℕ) → m ≢ n → next_of new m ≡ next_of old m

-- what was parked under the literal, from this clause on, is still to come back to the lists
pub record IsReturning (store : Clauses) (trail : Trail) (lit : ℤ) (at fuel : ℕ) : Type 0 where
  pub literal : IsLiteral store.vars lit
  pub parked : ℕ → Bool
  pub listed : (y : ℤ) → IsLiteral store.vars y → IsListed store parked y
  pub under : (y : ℤ) → IsLiteral store.vars y → y ≢ lit → AreParked store parked y (park_of store y)
  pub here : AreParked store parked lit at
  pub taken : park_of store lit ≡ 0
  pub satisfied : (n m : ℕ) → parked n ≡ true → IsPair n m → In (watch_of store m) (trues trail.entries)
  pub parked_watch : (n : ℕ) → parked n ≡ true → IsWatch store n
  pub watches : AreWatches store trail.entries trail.done
  pub enough : length here.nodes ≤ fuel

-- the walk along the list of the literal has seen these watches, behind which the others follow; the literal is false
-- and the next one to be propagated, and the other watched literal is true wherever a watch was seen
pub record IsWalk (store : Clauses) (trail : Trail) (lit : ℤ) (before at fuel : ℕ) : Type 0 where
  pub kept : IsKept store trail
  pub none : store.false_id ≡ 0
  pub literal : IsLiteral store.vars lit
  pub waiting : trail.done < length trail.entries
  pub now : trues (oldest (trail.done + 1) trail.entries) ≡ neg_ℤ lit ∷ trues (oldest trail.done trail.entries)
  pub seen : List ℕ
  pub ahead : List ℕ
  pub linked : IsLinked store lit (seen ++ ahead)
  pub watches : AreWatchesOf store kept.hung.parked lit (seen ++ ahead)
  pub before_is : before ≡ last_of 0 seen / 2
  pub at_is : IsChain (next_of store) at ahead
  pub shielded : (n m : ℕ) → IsPair n m → In n seen → In (watch_of store m) (trues trail.entries)
  pub enough : length ahead ≤ fuel
