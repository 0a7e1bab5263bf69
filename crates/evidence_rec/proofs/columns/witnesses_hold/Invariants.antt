use Rattle.std.proofs.Common.{◌*◌, ◌<◌, ℕ, length}
use Rattle.evidence_rec.specs.Columns.{IsWitnessAt}
use Rattle.evidence_rec.proofs.columns.witnesses_hold.Given as goal

-- the witnesses of the parts so far satisfy what they have to
abbrev pub invariant-loop-part : goal.invariant-loop-part
invariant-loop-part l = (at : ℕ) → at < 64 * l.part → at < length l.set → IsWitnessAt l.problem l.set l.witnesses at
