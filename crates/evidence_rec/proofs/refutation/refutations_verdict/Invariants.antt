use Rattle.std.proofs.Common.{◌≡◌, drop}
use Rattle.evidence_rec.specs.Basis.{Begins, basis_of}
use Rattle.evidence_rec.specs.Refusals.{refutations_refusal}
use Rattle.evidence_rec.proofs.refutation.refutations_verdict.Given as goal

-- the refutations so far are not refused, so that those from here on say it all
abbrev pub invariant-loop-at : goal.invariant-loop-at
invariant-loop-at l =
    record {
      begins : Begins (basis_of l.problem) l.checker;
      answer :
          refutations_refusal l.problem l.earlier l.set l.first l.set l.proofs
          ≡ refutations_refusal l.problem l.earlier l.set l.line (drop l.at l.set) (drop l.at l.proofs);
    }
