use Rattle.std.proofs.Common.{ap, sym, subst}
use Rattle.gm_base.specs.Problem.{Problem}
use Rattle.evidence_rec.specs.Asking.{OracleState}
use Rattle.evidence_rec.specs.Records.{IsAccepted}
use Rattle.known_sets.proofs.oracle.KnownSets.know.Goals as goal

-- what an accepted record says is right for the oracle's problem
pub invariant_of-self : goal.invariant_of-self
invariant_of-self g c =
    let (earlier, accepted) = c.requires in
    record {
      well_formed = c.self.invariant.well_formed;
      honest = c.self.invariant.honest;
      right =
          c.keep_record.ensures (g.O.Oracle.state c.self.inside.oracle).problem earlier c.self.invariant.right
          (subst (λ (p : Problem). IsAccepted p earlier c.args.found.now) (sym (ap (λ (o : OracleState). o.problem) c.self.view_is)) accepted);
      proved = c.self.invariant.proved;
    }
