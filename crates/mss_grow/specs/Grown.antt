-- What growing ends with.
use Rattle.std.specs.Prelude.{◌≡◌, ℕ, true, false, List, []}
use Rattle.gm_base.specs.Sets.{has}
use Rattle.evidence_rec.specs.declared.record.Record.{Record}
use Rattle.evidence_rec.specs.declared.record.Record.TheVariants as record_of
use Rattle.evidence_rec.specs.Records.{IsShaped, Accepts}
use Rattle.evidence_rec.specs.Asking.{OracleState, IsDryAt}
use Rattle.mss_grow.specs.declared.grown.Grown.{Grown}
use Rattle.mss_grow.specs.declared.grown.Grown.TheVariants as grown

-- a correction that has no group of the set
abbrev pub IsCorrectionOutside : List ℕ → Record → Type 0
IsCorrectionOutside set (record_of.Conflict out proof witnesses) = ⊥
IsCorrectionOutside set (record_of.Correction out witness proofs) = (g : ℕ) → has out g ≡ true → has set g ≡ false

-- a record of a minimal correction that has no group of the set, and that needs none before it; or the set of the last question, at which the purse was
-- empty and the search stood before a conflict
abbrev pub TellsGrown : OracleState → List ℕ → ℕ → Grown → Type 0
TellsGrown o set left (grown.Done made) = IsCorrectionOutside set made × IsShaped o.problem made × Accepts o.problem [] made
TellsGrown o set left (grown.Dry more) = IsDryAt o more left
