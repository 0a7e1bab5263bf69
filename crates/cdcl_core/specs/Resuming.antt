-- How levels are shared by two questions.
use Rattle.std.specs.Prelude.{◌≡◌, ◌⊎◌, ℕ, ◌≤◌, List, ℤ}
use Rattle.sat_base.specs.Members.{In}
use Rattle.trail_book.specs.declared.entry.Entry.{Entry}
use Rattle.trail_book.specs.Trail.{trues, keep}
use Rattle.learn_step.specs.Reasons.{IsDecision}

-- the literal is true up to level `more`, and no other one was decided above level `levels` up to there
pub record IsShared (es : List Entry) (lit : ℤ) (levels more : ℕ) : Type 0 where
  pub higher : levels ≤ more
  pub is_true : In lit (trues (keep more es))
  pub decided : (m : ℤ) → IsDecision (keep more es) m → IsDecision (keep levels es) m ⊎ (m ≡ lit)
