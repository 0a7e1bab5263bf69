-- What conflict analysis gives.
use Rattle.std.specs.Prelude.{◌≡◌, ◌≢◌, ℕ, ◌-◌, ◌<◌, true, List, [], ◌∷◌, ◌++◌, ℤ, neg_ℤ}
use Rattle.sat_base.specs.Members.{In}
use Rattle.sat_base.specs.Derivation.{follows}
use Rattle.sat_base.specs.Database.{StoredClause, known_of}
use Rattle.sat_base.specs.Units.{AllFalse, AllFalseBut, IsUnset}
use Rattle.trail_book.specs.declared.entry.Entry.{Entry}
use Rattle.trail_book.specs.Trail.{trues, top, keep}
use Rattle.learn_step.specs.Reasons.{before_last, IsDecision}
use Rattle.learn_step.specs.declared.origin.Origin.{Origin}
use Rattle.learn_step.specs.declared.origin.Origin.TheVariants as origin

-- the literal stands in some clause
pub record IsUsed (db : List StoredClause) (lit : ℤ) : Type 0 where
  pub clause : StoredClause
  pub in_db : In clause db
  pub has : In lit clause.lits

-- a literal but this one that was not false below the level
pub record HasSecond (es : List Entry) (lits : List ℤ) (but : ℤ) (level : ℕ) : Type 0 where
  pub one : ℤ
  pub has : In one lits
  pub other : one ≢ but
  pub still_open : ¬ In (neg_ℤ one) (trues (keep (level - 1) es))

-- the highest level of the other literals: there they all are false, and below it one of them is not
pub record IsBackLevel (es : List Entry) (lits : List ℤ) (but : ℤ) (level : ℕ) : Type 0 where
  pub below : level < top es
  pub others : AllFalseBut (trues (keep level es)) lits but
  pub second : 0 < level → HasSecond es lits but level

-- a clause that follows by its hints and is false; its first literal alone is of the top level, so that it is unit, and
-- forces that literal, at the highest level of the others
pub record IsLearnt (db : List StoredClause) (es : List Entry) (lits : List ℤ) (hints : List ℕ) (back_level : ℕ) : Type 0 where
  pub first : ℤ
  pub rest : List ℤ
  pub is : lits ≡ first ∷ rest
  pub follows : follows (known_of db) lits hints ≡ true
  pub is_false : AllFalse (trues es) lits
  pub used : (l : ℤ) → In l lits → IsUsed db l
  -- no literal is one of level 0: those were resolved away
  pub above_root : (l : ℤ) → In l lits → ¬ In (neg_ℤ l) (trues (keep 0 es))
  pub unset : IsUnset (trues (before_last es)) first
  pub others : AllFalseBut (trues (before_last es)) lits first
  pub back : IsBackLevel es lits first back_level

-- the failed assumption's negation, which a core begins with
abbrev pub start_of : Origin → List ℤ
start_of (origin.Conflict id) = []
start_of (origin.Assumption lit) = neg_ℤ lit ∷ []

-- a clause that follows by its hints: the failed assumption's negation, where there is one, and then negated decisions
pub record IsCore (db : List StoredClause) (es : List Entry) (start lits : List ℤ) (hints : List ℕ) : Type 0 where
  pub negated : List ℤ
  pub is : lits ≡ start ++ negated
  pub decided : (l : ℤ) → In l negated → IsDecision es (neg_ℤ l)
  pub follows : follows (known_of db) lits hints ≡ true
  pub used : (l : ℤ) → In l lits → IsUsed db l
  pub consistent : (l : ℤ) → In l lits → ¬ In (neg_ℤ l) lits
