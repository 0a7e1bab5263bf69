use Rattle.evidence_rec.specs.declared.record.Record.TheVariants as record_of
use Rattle.evidence_rec.proofs.VerdictLemmas.{accepts-of, minimal-of}
use Rattle.evidence_rec.proofs.checking.RecordChecker.check.Goals as goal

pub returns-in-Conflict-clause-accepts : goal.returns-in-Conflict-clause-accepts
returns-in-Conflict-clause-accepts c =
    accepts-of c.args.problem.now c.args.earlier.now c.args.record.now (record_of.Conflict c.in-Conflict.set c.in-Conflict.proof c.in-Conflict.witnesses) c.conflict_verdict.result
    c.in-Conflict.is c.requires.shaped c.conflict_verdict.ensures.verdict c.conflict_verdict.ensures.is_set

-- what is accepted is minimal
pub returns-in-Conflict-clause-minimal : goal.returns-in-Conflict-clause-minimal
returns-in-Conflict-clause-minimal c =
    minimal-of c.args.problem.now c.args.earlier.now c.args.record.now c.conflict_verdict.result c.groups-groups.ensures.well_formed (returns-in-Conflict-clause-accepts c)

pub returns-in-Correction-clause-accepts : goal.returns-in-Correction-clause-accepts
returns-in-Correction-clause-accepts c =
    accepts-of c.args.problem.now c.args.earlier.now c.args.record.now (record_of.Correction c.in-Correction.set c.in-Correction.witness c.in-Correction.proofs) c.correction_verdict.result
    c.in-Correction.is c.requires.shaped c.correction_verdict.ensures.verdict c.correction_verdict.ensures.is_set

pub returns-in-Correction-clause-minimal : goal.returns-in-Correction-clause-minimal
returns-in-Correction-clause-minimal c =
    minimal-of c.args.problem.now c.args.earlier.now c.args.record.now c.correction_verdict.result c.groups-groups.ensures.well_formed (returns-in-Correction-clause-accepts c)
