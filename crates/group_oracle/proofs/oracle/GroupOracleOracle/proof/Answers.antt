use Rattle.std.proofs.Common.{◌≡◌, true, ℕ, List, Some, subst}
use Rattle.std.specs.Prelude.{IfOk}
use Rattle.gm_base.specs.Evidence.{refutes}
use Rattle.evidence_rec.specs.Asking.{OracleState}
use Rattle.group_oracle.proofs.OracleLemmas.{derivation_refutes}
use Rattle.group_oracle.proofs.oracle.GroupOracleOracle.proof.Goals as goal

pub returns : goal.returns
returns c =
    let a = c.self.inside in
    let inv = c.self.invariant in
    subst (λ (o : OracleState). IfOk c.trim.result (λ d. (set : List ℕ) → o.refuted ≡ Some set → refutes o.problem set d ≡ true)) c.self.view_is
    (derivation_refutes a.vars a.groups a.solver.log c.log.result.now a.refuted c.in-Some.step c.trim.result inv.well_formed inv.honest inv.refuted c.in-Some.is c.log.ensures.log c.trim.ensures)
