use Rattle.std.proofs.Common.{◌≡◌, ◌+◌, drop}
use Rattle.evidence_rec.specs.Shorten.{least_from, least_serving}
use Rattle.evidence_rec.proofs.serving.least_serving.Given as goal

-- none of the records so far serves, so that those from here on tell
abbrev pub invariant-loop-at : goal.invariant-loop-at
invariant-loop-at l = least_serving l.earlier l.set l.group ≡ least_from (l.at + 1) l.set l.group (drop l.at l.earlier)
