-- What holds between two hints.
use Rattle.std.proofs.Common.{◌≡◌, ℕ, List, drop}
use Rattle.std.specs.Prelude.{ℤ, Bool}
use Rattle.lrat_check.specs.Refusal.{hints_refusal}
use Rattle.lrat_check.specs.Marks.{AreMarked}

-- the marked literals are false, and under them the hints from `i` on are refused as all of them are from the start
pub record IsFollowed (known : List (ℕ × List ℤ)) (lits : List ℤ) (hints : List ℕ) (marks : List Bool) (i : ℕ) : Type 0 where
  pub falses : List ℤ
  pub marked : AreMarked marks falses
  pub rest : hints_refusal known falses (drop i hints) ≡ hints_refusal known lits hints
