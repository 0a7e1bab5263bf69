use Rattle.std.proofs.Common.{◌≡◌, true, ap, sym, subst}
use Rattle.gm_base.specs.Problem.{Problem}
use Rattle.gm_base.specs.Evidence.{is_witness}
use Rattle.evidence_rec.specs.Asking.{OracleState}
use Rattle.known_sets.proofs.oracle.KnownSets.witnessed.Goals as goal

-- what the assignment satisfies, it satisfies in the oracle's problem
pub invariant_of-self : goal.invariant_of-self
invariant_of-self g c =
    record {
      well_formed = c.self.invariant.well_formed;
      honest = c.self.invariant.honest;
      right =
          c.keep_told.ensures (g.O.Oracle.state c.self.inside.oracle).problem c.self.invariant.right
          (subst (λ (p : Problem). is_witness p c.args.set.now c.args.assign.now ≡ true) (sym (ap (λ (o : OracleState). o.problem) c.self.view_is)) c.requires);
      proved = c.self.invariant.proved;
    }
