use Rattle.std.proofs.Common.{◌≡◌, true, take}
use Rattle.evidence_rec.proofs.ApartLemmas.{are_apart}
use Rattle.evidence_rec.proofs.record.has_no_other.Given as goal

-- the conflict has none of the correction's groups so far but, maybe, this one
abbrev pub invariant-loop-other : goal.invariant-loop-other
invariant-loop-other l = are_apart l.group (take l.other-index l.other-items) l.groups ≡ true
