use Rattle.std.proofs.Common.{◌≡◌, take, true}
use Rattle.std.specs.List.{list_all}
use Rattle.evidence_rec.proofs.OutsideLemmas.{passes}
use Rattle.evidence_rec.proofs.witnessing.holds_outside.Given as goal

-- the clauses so far are true, or of groups of the correction
abbrev pub invariant-loop-at : goal.invariant-loop-at
invariant-loop-at l = list_all (passes l.problem l.set l.witness) (take l.at l.problem.clauses) ≡ true
