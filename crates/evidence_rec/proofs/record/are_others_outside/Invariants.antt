use Rattle.std.proofs.Common.{◌≡◌, true, not, take}
use Rattle.std.specs.List.{list_all}
use Rattle.gm_base.specs.Sets.{has, without}
use Rattle.evidence_rec.proofs.record.are_others_outside.Given as goal

-- the set has none of the groups so far but, maybe, this one
abbrev pub invariant-loop-other : goal.invariant-loop-other
invariant-loop-other l = list_all (λ h. not (has (without l.set l.group) h)) (take l.other-index l.groups) ≡ true
