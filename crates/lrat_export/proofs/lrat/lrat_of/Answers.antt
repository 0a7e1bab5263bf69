use Rattle.std.proofs.Common.{[], subst, sym}
use Rattle.evidence_rec.specs.Records.{set_of, Accepts}
use Rattle.lrat_export.specs.Cnf.{clauses_of}
use Rattle.lrat_export.specs.Export.{exported}
use Rattle.lrat_export.specs.Laws.{IsRefutation}
use Rattle.lrat_export.specs.Conflict.{proof_of}
use Rattle.lrat_export.proofs.RefutationLemmas.{exported-refutes}
use Rattle.lrat_export.proofs.lrat.lrat_of.Goals as goal

-- by the law
pub returns-in-Conflict-clause-refutes : goal.returns-in-Conflict-clause-refutes
returns-in-Conflict-clause-refutes c =
    let p = c.args.problem.now in
    let accepted = subst (Accepts p []) c.in-Conflict.is c.requires.accepted in
    subst (λ r. IsRefutation p.vars (clauses_of p (set_of r)) (exported p (set_of r) (proof_of r))) (sym c.in-Conflict.is)
    (exported-refutes p c.in-Conflict.set c.in-Conflict.proof c.groups-groups.ensures.well_formed accepted.is_set accepted.refuted)
