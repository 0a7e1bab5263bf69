use Rattle.std.proofs.Common.{◌≡◌, ◌≤◌, length}
use Rattle.sat_base.specs.Derivation.{max_id}
use Rattle.evidence_text.specs.Cursors.{left_of, rest_of, proof_of, with_steps}
use Rattle.evidence_text.proofs.proof.read_proof.Given as goal

-- the steps so far were read
abbrev pub invariant-loop-hints : goal.invariant-loop-hints
invariant-loop-hints l =
    record {
      read : with_steps l.proof.steps (proof_of l.vars l.goal (left_of l.lines)) ≡ proof_of l.vars l.goal (left_of l.fn.lines);
      aim : l.aim ≤ max_id;
      rest : rest_of l.lines ≡ rest_of l.fn.lines;
    }

abbrev pub decreases-loop-hints : goal.decreases-loop-hints
decreases-loop-hints l = length l.lines.rest.now
