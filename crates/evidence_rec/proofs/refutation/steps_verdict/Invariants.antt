use Rattle.evidence_rec.proofs.LineLemmas.{AreTaken}
use Rattle.evidence_rec.proofs.refutation.steps_verdict.Given as goal

-- the steps so far were taken
abbrev pub invariant-loop-at : goal.invariant-loop-at
invariant-loop-at l = AreTaken l.initial.checker l.checker l.line l.proof.steps l.at
