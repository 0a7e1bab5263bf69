use Rattle.std.proofs.Common.{sym, subst}
use Rattle.gm_base.specs.Problem.{Problem, IsProblem}
use Rattle.evidence_rec.specs.Asking.{IsHonestOver}
use Rattle.known_sets.specs.Memory.{IsRightFor}
use Rattle.known_sets.proofs.oracle.KnownSets.bounded.Goals as goal

-- nothing is remembered, and the oracle is of this problem
pub invariant_of-result : goal.invariant_of-result
invariant_of-result g c =
    let within = g.O.Oracle.state c.args.oracle in
    let same = sym c.requires.problem in
    record {
      well_formed = subst IsProblem same c.groups-groups.ensures.well_formed;
      honest = subst (λ (p : Problem). IsHonestOver p within.log) same c.requires.honest;
      right = subst (λ (p : Problem). IsRightFor p c.in_ok-memory.memory) same c.in_ok-memory.ensures;
      proved = tt;
    }
