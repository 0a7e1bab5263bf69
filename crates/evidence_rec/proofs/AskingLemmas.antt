-- Lemmas on what questions cost.
use Rattle.std.proofs.Common.{ℕ, refl, ◌∙◌}
use Rattle.lrat_steps.proofs.PaidLemmas.{IsPaid-none, IsPaid-then}
use Rattle.evidence_rec.specs.Asking.{OracleState, IsSpent}

-- no question costs nothing
pub IsSpent-same : (o : OracleState) (left : ℕ) → IsSpent o o left left
IsSpent-same o left = record { problem = refl; paid = IsPaid-none o.log left }

-- what two rows of questions cost adds up
pub IsSpent-then : (old mid new : OracleState) (before between left : ℕ) → IsSpent old mid before between → IsSpent mid new between left
    → IsSpent old new before left
IsSpent-then old mid new before between left first then =
    record { problem = then.problem ∙ first.problem; paid = IsPaid-then old.log mid.log new.log before between left first.paid then.paid }
