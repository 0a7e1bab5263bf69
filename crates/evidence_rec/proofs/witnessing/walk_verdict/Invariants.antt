use Rattle.std.proofs.Common.{◌≡◌, ◌+◌, drop}
use Rattle.evidence_rec.specs.Refusals.{witnesses_refusal}
use Rattle.evidence_rec.proofs.witnessing.walk_verdict.Given as goal

-- the witnesses so far are not refused, so that those from here on say it all
abbrev pub invariant-loop-at : goal.invariant-loop-at
invariant-loop-at l =
    witnesses_refusal l.problem l.set l.line l.set l.witnesses
    ≡ witnesses_refusal l.problem l.set (l.line + l.at) (drop l.at l.set) (drop l.at l.witnesses)
