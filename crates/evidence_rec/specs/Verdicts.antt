-- What a verdict says of a record.
use Rattle.std.specs.Prelude.{◌≡◌, ℕ, Option, Some, None}
use Rattle.lrat_check.specs.declared.why.Why.{Why}
use Rattle.evidence_rec.specs.declared.checking.Verdict.{Verdict}
use Rattle.evidence_rec.specs.declared.checking.Verdict.TheVariants as verdict

-- the line that is refused, from 0, and why
abbrev pub refusal_by : Verdict → Option (ℕ × Why)
refusal_by verdict.Ok = None
refusal_by (verdict.Refused part why) = Some (part, why)

-- no line is
abbrev pub IsAccepted : Verdict → Type 0
IsAccepted v = refusal_by v ≡ None
