use Rattle.std.proofs.Common.{◌≡◌, ◌<◌, ℕ, true}
use Rattle.evidence_rec.specs.Columns.{is_set}
use Rattle.evidence_rec.proofs.columns.are_set.Given as goal

-- the bits so far are set
abbrev pub invariant-loop-at : goal.invariant-loop-at
invariant-loop-at l = (k : ℕ) → k < l.at → is_set l.column k ≡ true
