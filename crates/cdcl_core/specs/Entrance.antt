-- How a learnt clause comes to be watched.
use Rattle.std.specs.Prelude.{◌≢◌, ◌<◌, List, ℤ, neg_ℤ}
use Rattle.sat_base.specs.Members.{In}
use Rattle.sat_base.specs.Units.{AllFalseBut, IsUnset}
use Rattle.trail_book.specs.declared.entry.Entry.{Entry}
use Rattle.trail_book.specs.Trail.{trues, top}
use Rattle.learn_step.specs.Reasons.{before_last}

-- a literal of the clause, other than the first, that was not false before the last decision
pub record IsLatest (es : List Entry) (clause : List ℤ) (first lit : ℤ) : Type 0 where
  pub has : In lit clause
  pub other : lit ≢ first
  pub still_open : ¬ In (neg_ℤ lit) (trues (before_last es))

-- the clause forces this literal, and above level 0 another literal of it became false at the top level
pub record IsAsserting (es : List Entry) (clause : List ℤ) (first : ℤ) : Type 0 where
  pub has : In first clause
  pub unset : IsUnset (trues es) first
  pub others : AllFalseBut (trues es) clause first
  pub second : 0 < top es → (lit : ℤ) × IsLatest es clause first lit
