-- What shrinking ends with.
use Rattle.std.specs.Prelude.{ℕ, List, []}
use Rattle.gm_base.specs.Sets.{IsSubset}
use Rattle.gm_base.specs.Problem.{Problem}
use Rattle.evidence_rec.specs.declared.record.Record.{Record}
use Rattle.evidence_rec.specs.declared.record.Record.TheVariants as record_of
use Rattle.evidence_rec.specs.Records.{IsShaped, Accepts}
use Rattle.evidence_rec.specs.Asking.{OracleState, IsDryAt}
use Rattle.mus_shrink.specs.declared.shrunk.Shrunk.{Shrunk}
use Rattle.mus_shrink.specs.declared.shrunk.Shrunk.TheVariants as shrunk

-- an accepted conflict within the set
abbrev pub IsConflictWithin : Problem → List ℕ → Record → Type 0
IsConflictWithin p set (record_of.Conflict part proof witnesses) = IsSubset part set
IsConflictWithin p set (record_of.Correction part witness proofs) = ⊥

-- a record of a minimal conflict within the set, which needs none before it; or the set of the last question, at which the purse was empty and the
-- search stood before a conflict
abbrev pub TellsShrunk : OracleState → List ℕ → ℕ → Shrunk → Type 0
TellsShrunk o set left (shrunk.Done made) = IsConflictWithin o.problem set made × IsShaped o.problem made × Accepts o.problem [] made
TellsShrunk o set left (shrunk.Dry part) = IsDryAt o part left
