use Rattle.std.proofs.Common.{subst}
use Rattle.gm_audit.specs.Audits.{TellsRecords}
use Rattle.evidence_trials.proofs.evidence.carrying.carry_evidence.Goals as goal

-- what a yes of the audit says
pub carry_records-requires-clause-accepted : goal.carry_records-requires-clause-accepted
carry_records-requires-clause-accepted c = (subst (TellsRecords c.args.problem.now c.args.evidence.now) c.in-Yes.is c.in_ok-records.ensures.yes).accepted

pub carry_records-requires-clause-distinct : goal.carry_records-requires-clause-distinct
carry_records-requires-clause-distinct c = (subst (TellsRecords c.args.problem.now c.args.evidence.now) c.in-Yes.is c.in_ok-records.ensures.yes).distinct
