-- What comes of exploring a seed.
use Rattle.std.specs.Prelude.{◌≡◌, ℕ, true, List}
use Rattle.gm_base.specs.Explored.{explores}
use Rattle.evidence_rec.specs.Records.{found_of, IsAcceptedAlone}
use Rattle.evidence_rec.specs.Asking.{OracleState, IsDryAt}
use Rattle.worker_pool.specs.declared.marco.Explored.{Explored}
use Rattle.worker_pool.specs.declared.marco.Explored.TheVariants as explored

-- an accepted record that explores the seed; or the set of the last question, at which the purse was empty and the search
-- stood before a conflict
abbrev pub TellsExplored : OracleState → List ℕ → ℕ → Explored → Type 0
TellsExplored o seed left (explored.Found made) = IsAcceptedAlone o.problem made × (explores (found_of made) seed ≡ true)
TellsExplored o seed left (explored.Dry asked) = IsDryAt o asked left
